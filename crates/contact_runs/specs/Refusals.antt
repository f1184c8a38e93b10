-- The table's number for a call on the plain graph, from its arguments, buffer lengths included; 0 where nothing is refused. Definitions only.
use Rattle.std.specs.Prelude.{ℕ, ◌*◌, Bool, true, false, cond, not, ◌&&◌, ◌||◌, List, [], ◌∷◌, eqb, ltb, leb, length}
use Rattle.rules.specs.Graph.{Graph}
use Rattle.rules.specs.Numbers.{every}
use Rattle.rules.specs.Records.{Pair}
use Rattle.collider.specs.Range.{settings_fit, colliders_fit, bodies_fit}
use Rattle.contact_graph.specs.Calls.{request_fits}
use Rattle.contact_range.specs.Range.{same_colliders}
use Rattle.contact_graph.specs.declared.call.Request.{Request}
use Rattle.rules.specs.Limits.{most_workers}
use Rattle.layout.specs.Proposal.{proposal_size}
use Rattle.proposals.specs.Range.{hook_fits, proposal_fits}
use Rattle.shares.specs.Shares.{workers_of, total_of, entry_at, times}
use Rattle.step.specs.Step.{Given, Rows, given_long, rows_long}

-- a test of each pair, and of some pair
unfoldable pub all_pairs : (Pair → Bool) → List Pair → Bool
all_pairs f [] = true
all_pairs f (p ∷ ps) = f p && all_pairs f ps

unfoldable pub some_pair : (Pair → Bool) → List Pair → Bool
some_pair f [] = false
some_pair f (p ∷ ps) = f p || some_pair f ps

-- ---- an addition: 2 of the request alone, since a graph that calls have left is in range; 3, 4, 5
unfoldable pub plain_add_refusal : Request → Graph → ℕ
plain_add_refusal a g =
    cond (not (request_fits a)) 2
    (cond (eqb a.collider1 a.collider2) 3
    (cond (some_pair (λ p. same_colliders a.collider1 a.collider2 p.names.collider1 p.names.collider2) g.pairs) 4
    (cond (eqb (length g.pairs) g.capacity) 5 0)))

-- ---- a step
-- the hook's answer for each active pair is a mark
unfoldable pub plain_hooks_fit : List ℕ → List Pair → Bool
plain_hooks_fit proposals ps = all_pairs (λ p. hook_fits proposals (p.names.id * proposal_size)) ps

-- at most `pair_manifolds` manifolds, and `proposed_points` points in each, for each active pair
unfoldable pub plain_proposals_fit : List ℕ → List Pair → Bool
plain_proposals_fit proposals ps = all_pairs (λ p. proposal_fits proposals (p.names.id * proposal_size)) ps

-- 1 to 8 workers; what is listed is active, and each active pair is listed once. That no more are listed than the capacity follows, and is tested first, as the code does
unfoldable pub plain_shares_fit : List ℕ → Graph → Bool
plain_shares_fit xs g =
    ((ltb 0 (workers_of xs) && leb (workers_of xs) most_workers) && leb (total_of xs) g.capacity)
    && (every (λ j. some_pair (λ p. eqb p.names.id (entry_at xs j)) g.pairs) (total_of xs)
    && all_pairs (λ p. eqb (times (entry_at xs) p.names.id (total_of xs)) 1) g.pairs)

-- 1 of the rows beside the graph, and 2 of all but the graph: a graph that calls have left is of its length and in range
unfoldable pub plain_step_refusal : Given → Rows → Graph → ℕ
plain_step_refusal x l g =
    cond (not (given_long x g.capacity && rows_long l g.capacity)) 1
    (cond (not (settings_fit x.settings && (colliders_fit x.colliders && (bodies_fit x.bodies && plain_hooks_fit x.proposals g.pairs)))) 2
    (cond (not (plain_proposals_fit x.proposals g.pairs)) 6
    (cond (not (plain_shares_fit x.shares g)) 7 0)))
