-- What one line does to the rows of a step, word by word: the line's words stand at the front of ws. Definitions only.
use Rattle.std.specs.Prelude.{ℕ, ◌+◌, ◌-◌, ◌*◌, ◌≡◌, Bool, cond, List, [], ◌∷◌, Option, None, Some, eqb, ltb, leb, length}
use Rattle.rows.specs.Rows.{part, put}
use Rattle.rules.specs.Limits.{pair_manifolds, proposed_points}
use Rattle.rules.specs.Limits as limits
use Rattle.layout.specs.Body.{body_size}
use Rattle.layout.specs.Collider.{collider_size}
use Rattle.words.specs.Words.{word_at}
use Rattle.layout.specs.Proposal.{proposal_hook, proposal_count, proposal_manifolds, proposed_manifold_size, proposed_manifold_normal, proposed_manifold_points, proposed_point_size}
use Rattle.layout.specs.Settings.{settings_length}
use Rattle.contact_range.specs.Range.{same_colliders}
use Rattle.trace_lines.specs.Widths.{width_of}
use Rattle.trace_rules.specs.Fields.{Line, settings_letter, collider_letter, body_letter, hook_letter, manifold_letter, point_letter}
use Rattle.trace_steps.specs.declared.proposal.Counts.{Counts}

-- ---- a line's words at the front of ws
pub record Held (ws : List ℕ) (l : Line) : Type 0 where
  pub front : part ws 0 (length l.words) ≡ l.words
  pub width : length l.words ≡ width_of l.letter

-- ---- settings, colliders, bodies
unfoldable pub settings_taken : ℕ → List ℕ → List ℕ → List ℕ
settings_taken letter ws row = cond (eqb letter settings_letter) (put row 0 (part ws 0 settings_length)) row

-- a number that is not below count has no record
unfoldable pub record_stored : ℕ → ℕ → List ℕ → List ℕ → List ℕ
record_stored count size ws row = cond (ltb (word_at ws 0) count) (put row (word_at ws 0 * size) (1 ∷ part ws 1 (size - 1))) row

abbrev pub record_taken : ℕ → ℕ → ℕ → ℕ → List ℕ → List ℕ → List ℕ
record_taken mark count size letter ws row = cond (eqb letter mark) (record_stored count size ws row) row

-- the three rows after a line
pub record RowsTaken (letter : ℕ) (ws settings colliders bodies settings' colliders' bodies' : List ℕ) : Type 0 where
  pub settings_are : settings' ≡ settings_taken letter ws settings
  pub colliders_are : colliders' ≡ record_taken collider_letter limits.colliders collider_size letter ws colliders
  pub bodies_are : bodies' ≡ record_taken body_letter limits.bodies body_size letter ws bodies

-- ---- a pair's proposal
-- one more, up to the number after the limit
unfoldable pub raised : ℕ → ℕ → ℕ
raised limit n = cond (leb n limit) (n + 1) n

abbrev pub of_pair_at : ℕ → ℕ → List ℕ → Bool
of_pair_at a b ws = same_colliders a b (word_at ws 0) (word_at ws 1)

-- behind its two colliders a line has the hook's answer, or the normal
abbrev pub line_answer : ℕ
line_answer = 2

abbrev pub line_normal : ℕ
line_normal = 2

abbrev pub normal_size : ℕ
normal_size = proposed_manifold_points - proposed_manifold_normal

abbrev pub manifold_place : ℕ → ℕ
manifold_place k = proposal_manifolds + k * proposed_manifold_size

-- manifold n, without points: the count, and its words where there is room
unfoldable pub manifold_stored : ℕ → List ℕ → List ℕ → List ℕ
manifold_stored n ws row =
    let counted = put row proposal_count (raised pair_manifolds n ∷ []) in
    cond (ltb n pair_manifolds) (put counted (manifold_place n) (0 ∷ part ws line_normal normal_size)) counted

-- a point of manifold n, which has so many points: the count, and its words where there is room
unfoldable pub point_stored : ℕ → ℕ → List ℕ → List ℕ → List ℕ
point_stored n points ws row =
    let counted = put row (manifold_place n) (raised proposed_points points ∷ []) in
    cond (ltb n pair_manifolds) (cond (ltb points proposed_points) (put counted (manifold_place n + proposed_manifold_points + points * proposed_point_size) (part ws 0 proposed_point_size)) counted) row

-- the row and the counts beside it
pub record Progress : Type 0 where
  pub row : List ℕ
  pub counts : Counts

abbrev pub progress : List ℕ → Counts → Progress
progress row counts = record { row = row; counts = counts }

unfoldable pub hook_taken : ℕ → ℕ → List ℕ → List ℕ → List ℕ
hook_taken a b ws row = cond (of_pair_at a b ws) (put row proposal_hook (word_at ws line_answer ∷ [])) row

unfoldable pub manifold_taken : ℕ → ℕ → List ℕ → Progress → Progress
manifold_taken a b ws p =
    cond (of_pair_at a b ws)
    (record {
      row = manifold_stored p.counts.manifolds ws p.row;
      counts = record { manifolds = raised pair_manifolds p.counts.manifolds; last = Some p.counts.manifolds; points = 0 };
    })
    (record { row = p.row; counts = record { manifolds = p.counts.manifolds; last = None; points = 0 } })

-- a point joins the last manifold, where there is one
abbrev pub point_joined : Option ℕ → List ℕ → Progress → Progress
point_joined None ws p = p
point_joined (Some n) ws p =
    record {
      row = point_stored n p.counts.points ws p.row;
      counts = record { manifolds = p.counts.manifolds; last = Some n; points = raised proposed_points p.counts.points };
    }

unfoldable pub point_taken : List ℕ → Progress → Progress
point_taken ws p = point_joined p.counts.last ws p

unfoldable pub line_taken : ℕ → ℕ → ℕ → List ℕ → Progress → Progress
line_taken a b letter ws p =
    cond (eqb letter hook_letter) (record { row = hook_taken a b ws p.row; counts = p.counts })
    (cond (eqb letter manifold_letter) (manifold_taken a b ws p) (cond (eqb letter point_letter) (point_taken ws p) p))
