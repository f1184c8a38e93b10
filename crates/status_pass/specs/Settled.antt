-- What the status pass writes into the record of a contact that stays. Definitions only.
use Rattle.std.specs.Prelude.{ℕ, List, [], ◌∷◌}
use Rattle.rows.specs.Rows.{put}
use Rattle.rules.specs.Status.{Verdict, vanishes, starts, stops, generates, recounts, persists}
use Rattle.layout.specs.Contact.{contact_count_change, contact_edge_flags, pair_started_generating_constraints, pair_started_touching, pair_stopped_touching}

-- the edge's TOUCHING, and the pair's STARTED_TOUCHING, STOPPED_TOUCHING and STARTED_GENERATING_CONSTRAINTS
abbrev pub started_place : ℕ
started_place = pair_started_touching

abbrev pub stopped_place : ℕ
stopped_place = pair_stopped_touching

abbrev pub generating_place : ℕ
generating_place = pair_started_generating_constraints

abbrev pub started_words : List ℕ → List ℕ
started_words w = put (put (put w contact_edge_flags (1 ∷ [])) started_place (0 ∷ [])) generating_place (0 ∷ [])

abbrev pub stopped_words : List ℕ → List ℕ
stopped_words w = put (put w contact_edge_flags (0 ∷ [])) stopped_place (0 ∷ [])

unfoldable pub settled_words : Verdict → List ℕ → List ℕ
settled_words vanishes w = w
settled_words starts w = started_words w
settled_words stops w = stopped_words w
settled_words generates w = put w generating_place (0 ∷ [])
settled_words recounts w = put w contact_count_change (0 ∷ [])
settled_words persists w = w
