-- The step: when it is refused, what it answers, and every word of the rows that it is lent. Definitions only.
use Rattle.std.specs.Prelude.{ℕ, ◌*◌, ◌≡◌, Bool, cond, not, ◌&&◌, List, eqb, length, Err, Ok, Result}
use Rattle.rows.specs.Rows.{put, each}
use Rattle.rules.specs.Inputs.{Inputs}
use Rattle.rules.specs.Numbers.{every}
use Rattle.rules.specs.Update.{Updated}
use Rattle.data_structures.specs.BitVec.{blocks_of}
use Rattle.rules.specs.Limits.{most_workers}
use Rattle.layout.specs.Body.{bodies_length}
use Rattle.layout.specs.Change.{changes_length}
use Rattle.layout.specs.Collider.{colliders_length}
use Rattle.layout.specs.Event.{events_length}
use Rattle.layout.specs.Proposal.{proposal_size}
use Rattle.layout.specs.Settings.{settings_length}
use Rattle.layout.specs.Shares.{shares_length}
use Rattle.collider.specs.Range.{settings_fit, colliders_fit, bodies_fit}
use Rattle.collider.specs.Recorded.{settings_of}
use Rattle.contact_types.specs.Refusals.{number_of}
use Rattle.contact_range.specs.Range.{right_length, in_range}
use Rattle.contact_range.specs.Recorded.{capacity_of, listed_count, listed_at}
use Rattle.proposals.specs.Range.{hook_fits, proposal_fits}
use Rattle.contact_update.specs.After.{inputs_of}
use Rattle.contact_update.specs.Contact.{update_of}
use Rattle.contact_update.specs.OrderLaws.{graph_after_all}
use Rattle.shares.specs.Shares.{shares_fit}
use Rattle.status_pass.specs.Pass.{Passing, begun, pass_words}
use Rattle.status_pass.specs.EventsAndChanges.{event_words, change_words}
use Rattle.update_pass.specs.Shared.{active_of, recycled_of, parts_of, standing_ids, distances_of, bits_length}
use Rattle.step.specs.declared.answer.StepReport.{StepReport}
use Rattle.step.specs.declared.input.StepInput.{StepInput}
use Rattle.contact_types.specs.declared.refusal.Refusal.{Refusal}

-- what a step is lent to read
pub record Given : Type 0 where
  pub settings : List ℕ
  pub colliders : List ℕ
  pub bodies : List ℕ
  pub proposals : List ℕ
  pub shares : List ℕ

-- what it is lent to write, beside the graph
pub record Rows : Type 0 where
  pub bits : List ℕ
  pub events : List ℕ
  pub changes : List ℕ
  pub distances : List ℕ

abbrev pub given : List ℕ → List ℕ → List ℕ → List ℕ → List ℕ → Given
given settings colliders bodies proposals shares = record { settings = settings; colliders = colliders; bodies = bodies; proposals = proposals; shares = shares }

-- the same of the struct that the code is lent
abbrev pub given_rows : StepInput → Given
given_rows input = given input.settings.now input.colliders.now input.bodies.now input.proposals.now input.shares.now

abbrev pub rows : List ℕ → List ℕ → List ℕ → List ℕ → Rows
rows bits events changes distances = record { bits = bits; events = events; changes = changes; distances = distances }

-- ---- refusals
-- 1: the capacity is not 1 to 256, or a lent row's length is not the one for it
abbrev pub long : List ℕ → ℕ → Bool
long xs n = eqb (length xs) n

unfoldable pub given_long : Given → ℕ → Bool
given_long x capacity =
    long x.settings settings_length
    && (long x.colliders colliders_length && (long x.bodies bodies_length && (long x.proposals (capacity * proposal_size) && long x.shares (shares_length capacity))))

unfoldable pub rows_long : Rows → ℕ → Bool
rows_long l capacity =
    long l.bits (bits_length capacity) && (long l.events (events_length capacity) && (long l.changes (changes_length capacity) && long l.distances capacity))

unfoldable pub lengths_fit : Given → List ℕ → Rows → Bool
lengths_fit x g l = right_length g && (given_long x (capacity_of g) && rows_long l (capacity_of g))

-- 2: a number, a mark, a combining rule or a stored count out of range, or a graph whose ids, pairs and list do not agree
unfoldable pub hooks_fit : List ℕ → List ℕ → Bool
hooks_fit proposals g = every (λ p. hook_fits proposals (listed_at g p * proposal_size)) (listed_count g)

unfoldable pub rows_in_range : List ℕ → List ℕ → List ℕ → List ℕ → List ℕ → Bool
rows_in_range settings colliders bodies proposals g = settings_fit settings && (colliders_fit colliders && (bodies_fit bodies && (in_range g && hooks_fit proposals g)))

abbrev pub numbers_fit : Given → List ℕ → Bool
numbers_fit x g = rows_in_range x.settings x.colliders x.bodies x.proposals g

-- 6: over `pair_manifolds` manifolds in an active pair's proposal, or over `proposed_points` points in a manifold of it
unfoldable pub proposals_fit : List ℕ → List ℕ → Bool
proposals_fit proposals g = every (λ p. proposal_fits proposals (listed_at g p * proposal_size)) (listed_count g)

-- 1, 2, 6, 7, in that order; 0 where nothing is refused
unfoldable pub step_refusal : Given → List ℕ → Rows → ℕ
step_refusal x g l =
    cond (not (lengths_fit x g l)) 1 (cond (not (numbers_fit x g)) 2 (cond (not (proposals_fit x.proposals g)) 6 (cond (not (shares_fit x.shares g)) 7 0)))

-- ---- a step that is not refused. Of the shares, only the bit words tell
-- the rules' inputs
abbrev pub inputs : Given → Inputs
inputs x = inputs_of (settings_of x.settings) x.colliders x.bodies x.proposals

-- what the rules make of each contact, by its id
abbrev pub made_of : Given → List ℕ → ℕ → Updated
made_of x g id = update_of (settings_of x.settings) x.colliders x.bodies x.proposals id g

-- the graph with each active contact updated
abbrev pub updated_graph : Given → List ℕ → List ℕ
updated_graph x g = graph_after_all (settings_of x.settings) x.colliders x.bodies x.proposals g (active_of g)

-- the status pass over the contacts whose bit stands, ascending
unfoldable pub pass_of : Given → List ℕ → Passing
pass_of x g = pass_words (begun (updated_graph x g)) (standing_ids (made_of x g) g)

-- the other rows: events and changes from the start of their rows on, the rest of those as it was
unfoldable pub rows_of : Given → List ℕ → Rows → Rows
rows_of x g l =
    record {
      bits = parts_of (made_of x g) (blocks_of (capacity_of g)) x.shares most_workers;
      events = put l.events 0 (each event_words (pass_of x g).events);
      changes = put l.changes 0 (each change_words (pass_of x g).changes);
      distances = distances_of (made_of x g) g;
    }

-- ---- the answer: a refusal's number, or how many events and changes are written and how many contacts were recycled
pub data Answer : Type 0 where
  refused : ℕ → Answer
  stepped : (events changes recycled : ℕ) → Answer

abbrev pub plain_answer : Result StepReport Refusal → Answer
plain_answer (Ok r) = stepped r.events r.changes r.recycled
plain_answer (Err r) = refused (number_of r)

unfoldable pub answer_of : Given → List ℕ → Answer
answer_of x g = stepped (length (pass_of x g).events) (length (pass_of x g).changes) (recycled_of (made_of x g) (active_of g))

-- an accepted step
pub record StepDone (x : Given) (g : List ℕ) (l : Rows) (g' : List ℕ) (l' : Rows) (r : StepReport) : Type 0 where
  pub answer : stepped r.events r.changes r.recycled ≡ answer_of x g
  pub graph : g' ≡ (pass_of x g).graph
  pub rows : l' ≡ rows_of x g l

-- The promise of `step`.
pub record Stepped (x : Given) (g : List ℕ) (l : Rows) (g' : List ℕ) (l' : Rows) (r : Result StepReport Refusal) : Type 0 where
  pub answer : plain_answer r ≡ cond (eqb (step_refusal x g l) 0) (answer_of x g) (refused (step_refusal x g l))
  pub graph : g' ≡ cond (eqb (step_refusal x g l) 0) (pass_of x g).graph g
  pub rows : l' ≡ cond (eqb (step_refusal x g l) 0) (rows_of x g l) l
