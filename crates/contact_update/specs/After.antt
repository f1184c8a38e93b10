-- What an update does to the words of a contact's record, and to the graph's. Definitions only.
use Rattle.std.specs.Prelude.{ℕ, ◌+◌, ◌*◌, List, [], ◌∷◌}
use Rattle.rows.specs.Rows.{part, put}
use Rattle.rows.specs.Slots.{update_at}
use Rattle.rules.specs.Inputs.{Settings, Inputs}
use Rattle.rules.specs.Records.{Point, Manifold, Pair}
use Rattle.rules.specs.Update.{Way, skipped, aabbs_disjoint, recycled, full, Updated, updated_between}
use Rattle.words.specs.Words.{word_at, float_word, mark_word}
use Rattle.collider.specs.Recorded.{collider_at, body_at}
use Rattle.layout.specs.Contact.{contact_flags, contact_manifolds, contact_size, contact_speculative_distance}
use Rattle.layout.specs.Graph.{graph_contacts}
use Rattle.layout.specs.Manifold.{manifold_points, manifold_size}
use Rattle.layout.specs.Point.{point_penetration, point_size}
use Rattle.layout.specs.Proposal.{proposal_size}
use Rattle.contact_records.specs.Recorded.{pair_at}
use Rattle.contact_records.specs.Written.{state_words}
use Rattle.contact_range.specs.Recorded.{capacity_of}
use Rattle.proposals.specs.Recorded.{proposal_at, hook_at}

-- ---- rule 5: the penetrations alone
-- of points that stand from that place on
unfoldable pub points_put : List Point → ℕ → List ℕ → List ℕ
points_put [] at w = w
points_put (p ∷ ps) at w = points_put ps (at + point_size) (put w (at + point_penetration) (float_word p.penetration ∷ []))

-- of manifolds that stand from that place on
unfoldable pub manifolds_put : List Manifold → ℕ → List ℕ → List ℕ
manifolds_put [] at w = w
manifolds_put (m ∷ ms) at w = manifolds_put ms (at + manifold_size) (points_put m.points (at + manifold_points) w)

abbrev pub disjoint_place : ℕ
disjoint_place = contact_flags + 1

abbrev pub static_place : ℕ
static_place = contact_flags + 6

-- The record's words, by the way that the update went: a skipped pair keeps every word, a disjoint one changes two, a recycled one
-- its penetrations, the speculative distance and the static marks, and a full update writes all of the pair's own words.
unfoldable pub after_words : Way → Pair → List ℕ → List ℕ
after_words skipped p w = w
after_words aabbs_disjoint p w = put (put w disjoint_place (1 ∷ [])) contact_speculative_distance (0 ∷ [])
after_words recycled p w =
    put (put (manifolds_put p.manifolds (contact_manifolds + 1) w) static_place (mark_word p.flags.static1 ∷ mark_word p.flags.static2 ∷ [])) contact_speculative_distance (0 ∷ [])
after_words full p w = put w contact_flags (state_words p)

-- ---- one record: the rules on what it records, with the colliders and bodies of those rows and the contact's own proposal
unfoldable pub record_updated : Settings → List ℕ → List ℕ → List ℕ → ℕ → List ℕ → Updated
record_updated s colliders bodies proposal id w =
    updated_between s (body_at bodies) (hook_at proposal 0) (proposal_at proposal 0) (pair_at w 0 id) (collider_at colliders (word_at w 0)) (collider_at colliders (word_at w 1))

unfoldable pub record_after : Settings → List ℕ → List ℕ → List ℕ → ℕ → List ℕ → List ℕ
record_after s colliders bodies proposal id w =
    let u = record_updated s colliders bodies proposal id w in
    after_words u.way u.pair w

-- ---- the graph
abbrev pub proposal_of : List ℕ → ℕ → List ℕ
proposal_of proposals id = part proposals (id * proposal_size) proposal_size

unfoldable pub graph_after : Settings → List ℕ → List ℕ → List ℕ → List ℕ → ℕ → List ℕ
graph_after s colliders bodies proposals g id =
    update_at (graph_contacts (capacity_of g)) contact_size (λ i w. record_after s colliders bodies (proposal_of proposals i) i w) g id

-- what a step's rows are as the rules' inputs
unfoldable pub inputs_of : Settings → List ℕ → List ℕ → List ℕ → Inputs
inputs_of s colliders bodies proposals =
    record {
      settings = s;
      collider = collider_at colliders;
      body = body_at bodies;
      proposal = λ id. proposal_at proposals (id * proposal_size);
      hook = λ id. hook_at proposals (id * proposal_size);
    }
