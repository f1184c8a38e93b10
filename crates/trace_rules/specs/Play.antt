-- A trace played: each entry is a public call, which gets the graph as the last one left it: docs/TRACES.md, 'What lines mean'. Definitions only.
use Rattle.std.specs.Prelude.{ℕ, suc, ◌+◌, ◌*◌, cond, List, [], ◌∷◌, ◌++◌, eqb, ltb, leb, length, take}
use Rattle.rows.specs.Rows.{put, each}
use Rattle.rules.specs.Limits.{pair_manifolds, proposed_points}
use Rattle.words.specs.Words.{word_at}
use Rattle.layout.specs.Change.{changes_length}
use Rattle.layout.specs.Contact.{contact_collider2}
use Rattle.layout.specs.Event.{events_length}
use Rattle.layout.specs.Proposal.{proposal_manifolds, proposal_size, proposed_manifold_size}
use Rattle.layout.specs.Shares.{shares_entries, shares_length}
use Rattle.manifold_records.specs.Written.{zeros}
use Rattle.contact_range.specs.Recorded.{capacity_of, contact_at, listed_count}
use Rattle.contact_graph.specs.Calls.{request_of, add_refusal, added_words}
use Rattle.contact_graph.specs.declared.call.Request.{Request}
use Rattle.update_pass.specs.Shared.{active_of, bits_length}
use Rattle.step.specs.Step.{Given, Rows, step_refusal, pass_of}
use Rattle.trace_rules.specs.Reading.{reading}
use Rattle.trace_rules.specs.Records.{Manifold, Proposal, StepRecord, Entry, addition, stepping, entries}
use Rattle.trace_rules.specs.Printed.{step_text, refused_text, unreadable}

-- ---- a step's rows
-- a count past its limit is written as the next number, and what is past the limit is left out: the step then answers 6
abbrev pub counted : ℕ → ℕ → ℕ
counted limit n = cond (leb n limit) n (limit + 1)

unfoldable pub manifold_words : Manifold → List ℕ
manifold_words m = counted proposed_points (length m.points) ∷ m.normal ++ each (λ point. point) (take proposed_points m.points)

-- each manifold at its place, from manifold k on
unfoldable pub with_manifolds : List ℕ → ℕ → List Manifold → List ℕ
with_manifolds row k [] = row
with_manifolds row k (m ∷ ms) = with_manifolds (cond (ltb k pair_manifolds) (put row (proposal_manifolds + k * proposed_manifold_size) (manifold_words m)) row) (suc k) ms

unfoldable pub proposal_words : Proposal → List ℕ
proposal_words p = with_manifolds (put (zeros proposal_size) 0 (p.hook ∷ counted pair_manifolds (length p.manifolds) ∷ [])) 0 p.manifolds

-- a contact's proposal is that of its two colliders
abbrev pub proposal_of : (ℕ → ℕ → Proposal) → List ℕ → ℕ → Proposal
proposal_of proposal g id = proposal (word_at g (contact_at g id)) (word_at g (contact_at g id + contact_collider2))

-- each active contact's at its id; zeros for the other ids
unfoldable pub with_proposals : (ℕ → ℕ → Proposal) → List ℕ → List ℕ → List ℕ → List ℕ
with_proposals proposal g row [] = row
with_proposals proposal g row (id ∷ ids) = with_proposals proposal g (put row (id * proposal_size) (proposal_words (proposal_of proposal g id))) ids

unfoldable pub proposals_of : (ℕ → ℕ → Proposal) → List ℕ → List ℕ
proposals_of proposal g = with_proposals proposal g (zeros (capacity_of g * proposal_size)) (active_of g)

-- one worker, which lists the active contacts in the list's order
unfoldable pub shares_of : List ℕ → List ℕ
shares_of g = put (put (zeros (shares_length (capacity_of g))) 0 (1 ∷ listed_count g ∷ [])) shares_entries (active_of g)

abbrev pub given_by : StepRecord → List ℕ → Given
given_by r g = record { settings = r.settings; colliders = r.colliders; bodies = r.bodies; proposals = proposals_of r.proposal g; shares = shares_of g }

-- rows to write into, of the lengths for the graph; what they hold has no effect
abbrev pub blank_rows : ℕ → Rows
blank_rows capacity = record { bits = zeros (bits_length capacity); events = zeros (events_length capacity); changes = zeros (changes_length capacity); distances = zeros capacity }

-- a number out of range in any line, one replaced or passed over too, is answered as the step answers one
unfoldable pub go_refusal : StepRecord → List ℕ → ℕ
go_refusal r g = cond r.fits (step_refusal (given_by r g) g (blank_rows (capacity_of g))) 2

-- ---- what an entry prints, and the graph after it
pub record Played : Type 0 where
  pub text : List ℕ
  pub graph : List ℕ

abbrev pub play_addition : Request → List ℕ → Played
play_addition a g = cond (eqb (add_refusal g a) 0) (record { text = []; graph = added_words g a }) (record { text = refused_text (add_refusal g a); graph = g })

abbrev pub play_go : StepRecord → List ℕ → Played
play_go r g =
    cond (eqb (go_refusal r g) 0)
    (record { text = step_text (pass_of (given_by r g) g).events (pass_of (given_by r g) g).changes; graph = (pass_of (given_by r g) g).graph })
    (record { text = refused_text (go_refusal r g); graph = g })

unfoldable pub play_entry : Entry → List ℕ → Played
play_entry (addition words) g = play_addition (request_of words) g
play_entry (stepping r) g = play_go r g

-- each in turn
unfoldable pub play_entries : List Entry → List ℕ → Played
play_entries [] g = record { text = []; graph = g }
play_entries (e ∷ es) g =
    let first = play_entry e g in
    let others = play_entries es first.graph in
    record { text = first.text ++ others.text; graph = others.graph }

-- a whole trace: after what its readable lines print, 10 for an unreadable one
unfoldable pub played : List ℕ → List ℕ → List ℕ
played trace g = (play_entries (entries (reading trace).lines) g).text ++ cond (reading trace).unreadable (refused_text unreadable) []
