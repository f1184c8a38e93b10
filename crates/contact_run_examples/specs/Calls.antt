-- A list of calls on a graph of capacity 2, and what each of them answers and leaves in the graph, word by word. Definitions only; `calls_seen` in `Runs` has that it is so.
use Rattle.std.specs.Prelude.{ℕ, ◌-◌, ◌*◌, Bool, true, false, cond, List, [], ◌∷◌, ◌++◌}
use Rattle.std.specs.Float.Ieee.{of_bits}
use Rattle.std.specs.Float.{binary32}
use Rattle.rules.specs.Solver.{warm_start_normal_impulse}
use Rattle.layout.specs.Body.{bodies_length, body_size}
use Rattle.layout.specs.Change.{changes_length}
use Rattle.layout.specs.Collider.{collider_size, colliders_length}
use Rattle.layout.specs.Contact.{contact_size}
use Rattle.layout.specs.Event.{events_length}
use Rattle.layout.specs.Manifold.{manifold_size, manifolds_size}
use Rattle.layout.specs.Point.{point_size}
use Rattle.layout.specs.Proposal.{proposed_manifold_size, proposed_point_size}
use Rattle.manifold_records.specs.Written.{zeros}
use Rattle.contact_graph.specs.Promises as graph
use Rattle.contact_graph.specs.declared.call.Request.{Request}
use Rattle.update_pass.specs.Shared.{bits_length}
use Rattle.step.specs.Step as step
use Rattle.step.specs.Step.{Given, Rows}
use Rattle.contact_runs.specs.Runs.{Entry, addition, stepping, impulses}
use Rattle.contact_runs.specs.Solver.{Write}
use Rattle.rules.specs.Limits.{proposed_points}
use Rattle.contact_run_examples.specs.Seen.{Answer, of_addition, of_step, of_writes, Seen}

-- ---- what a step is given
abbrev pub one : ℕ
one = 0x3f80_0000

-- 0.1
abbrev pub depth : ℕ
depth = 0x3dcc_cccd

-- a collider that is there, with that body; its box goes on the axis x from 10 to 11 where it is away, else from 0 to 1
unfoldable pub collider_words : ℕ → Bool → List ℕ
collider_words body away =
    1 ∷ 1 ∷ body ∷ cond away 0x4120_0000 0 ∷ 0 ∷ 0 ∷ cond away 0x4130_0000 one ∷ one ∷ one ∷ 0 ∷ 0 ∷ 0 ∷ 1 ∷ 1 ∷ 0 ∷ 0 ∷ 0 ∷ 0 ∷ 0 ∷ 0 ∷ 0 ∷ 0 ∷ 0 ∷ []

-- whether colliders 1 and 2 are away
unfoldable pub three_colliders : Bool → Bool → List ℕ
three_colliders away1 away2 = collider_words 0 false ++ collider_words 1 away1 ++ collider_words 2 away2

abbrev pub colliders : Bool → Bool → List ℕ
colliders away1 away2 = three_colliders away1 away2 ++ zeros (colliders_length - 3 * collider_size)

-- a body that is there, at rest at that place of the axis x
unfoldable pub body_words : ℕ → List ℕ
body_words at = 1 ∷ 0 ∷ at ∷ 0 ∷ 0 ∷ 0 ∷ 0 ∷ 0 ∷ one ∷ zeros (body_size - 9)

-- bodies 0 and 2 at the origin, body 1 there
unfoldable pub three_bodies : ℕ → List ℕ
three_bodies at = body_words 0 ++ body_words at ++ body_words 0

abbrev pub bodies : ℕ → List ℕ
bodies at = three_bodies at ++ zeros (bodies_length - 3 * body_size)

-- matching on, by number, with that recycle distance
unfoldable pub settings : ℕ → List ℕ
settings recycle = 0x3c88_8889 ∷ one ∷ 0x3ba3_d70a ∷ recycle ∷ 0x3f7a_e148 ∷ 1 ∷ 0x3f00_0000 ∷ 1 ∷ 0 ∷ 1 ∷ 1 ∷ 0 ∷ []

-- a manifold of one point, 0.1 deep, at that place of the axis x and with that feature of both colliders
unfoldable pub proposed_words : ℕ → ℕ → List ℕ
proposed_words at feature = 1 ∷ one ∷ 0 ∷ 0 ∷ at ∷ 0 ∷ 0 ∷ at ∷ 0 ∷ 0 ∷ at ∷ 0 ∷ 0 ∷ depth ∷ feature ∷ feature ∷ zeros ((proposed_points - 1) * proposed_point_size)

-- that many manifolds, of these two
unfoldable pub proposal_words : ℕ → List ℕ
proposal_words count = 1 ∷ count ∷ proposed_words 0 0 ++ proposed_words one 1 ++ zeros (4 * proposed_manifold_size)

-- one worker with contact 0, or with contacts 0 and 1
unfoldable pub one_worker : ℕ → List ℕ
one_worker count = 1 ∷ count ∷ 0 ∷ 0 ∷ 0 ∷ 0 ∷ 0 ∷ 0 ∷ 0 ∷ 0 ∷ 1 ∷ []

-- the first with contact 1, the second with contact 0
unfoldable pub two_workers : List ℕ
two_workers = 2 ∷ 1 ∷ 1 ∷ 0 ∷ 0 ∷ 0 ∷ 0 ∷ 0 ∷ 0 ∷ 1 ∷ 0 ∷ []

-- what the steps differ in: recycle distance, place of body 1, colliders 1 and 2 away, manifolds of contacts 0 and 1, shares
unfoldable pub given_as : (recycle at : ℕ) (away1 away2 : Bool) (manifolds0 manifolds1 : ℕ) → List ℕ → Given
given_as recycle at away1 away2 manifolds0 manifolds1 shares =
    record {
      settings = settings recycle;
      colliders = colliders away1 away2;
      bodies = bodies at;
      proposals = proposal_words manifolds0 ++ proposal_words manifolds1;
      shares = shares;
    }

-- 0.05
abbrev pub recycle : ℕ
recycle = 0x3d4c_cccd

-- body 1 there, collider 2 away, a manifold for contact 0
unfoldable pub resting : ℕ → List ℕ → Given
resting at shares = given_as recycle at false true 1 0 shares

-- nothing is recycled, and contact 0 has that many manifolds
unfoldable pub anew : ℕ → Given
anew count = given_as 0 0 false true count 0 (one_worker 1)

-- the same with collider 2 here too
unfoldable pub together : Given
together = given_as 0 0 false false 2 1 (one_worker 2)

-- collider 1 goes away
unfoldable pub leaving : Given
leaving = given_as recycle 0 true false 2 1 (one_worker 2)

-- rows of zeros, and the same with other bit words
unfoldable pub rows : Rows
rows = record { bits = zeros (bits_length 2); events = zeros (events_length 2); changes = zeros (changes_length 2); distances = zeros 2 }

unfoldable pub used_rows : Rows
used_rows =
    record {
      bits = 5 ∷ 0xffff_ffff_ffff_ffff ∷ 0 ∷ 0 ∷ 0 ∷ 0 ∷ 0 ∷ 7 ∷ [];
      events = zeros (events_length 2);
      changes = zeros (changes_length 2);
      distances = zeros 2;
    }

-- both bodies are named, with contact events
unfoldable pub request : ℕ → ℕ → Request
request a b =
    record {
      collider1 = a;
      collider2 = b;
      has_body1 = 1;
      body1 = a;
      has_body2 = 1;
      body2 = b;
      contact_events = 1;
      modify_contacts = 0;
      speculative_distance = of_bits binary32 0;
    }

-- warm start normal impulse 1 for a point of a contact's first manifold
abbrev pub write_to : ℕ → ℕ → Write
write_to contact point = record { contact = contact; manifold = 0; point = point; impulse = warm_start_normal_impulse; word = one }

-- the first names a stored point; contact 0 has no second one, and contact 1 does not stand
unfoldable pub solving : List Write
solving = write_to 0 0 ∷ write_to 0 1 ∷ write_to 1 0 ∷ []

-- a body that has moved by 2 to the power of −7
abbrev pub aside : ℕ
aside = 0x3c00_0000

-- ---- the list, with the shares and the rows of its first step; and what follows
-- two additions, and one that finds the graph full; contact 0 starts to touch and contact 1 is disjoint; a solver writes; contact 0 is recycled;
-- the first step's shares are refused now; contact 0 has two manifolds
unfoldable pub calls_then : List ℕ → Rows → List Entry → List Entry
calls_then shares l es =
    addition (request 0 1)
    ∷ addition (request 1 2)
    ∷ addition (request 0 2)
    ∷ stepping (resting 0 shares) l
    ∷ impulses solving
    ∷ stepping (resting aside (one_worker 1)) rows
    ∷ stepping (resting 0 (one_worker 2)) rows
    ∷ stepping (anew 2) rows
    ∷ es

-- contact 0 stops touching; id 1 is given again; both contacts start to touch
unfoldable pub later_then : List Entry → List Entry
later_then es = stepping (anew 0) rows ∷ addition (request 0 2) ∷ stepping together rows ∷ es

-- contact 0 is disjoint, and contact 1 recycled
unfoldable pub last : List Entry
last = stepping leaving rows ∷ []

abbrev pub earlier : List Entry
earlier = calls_then (one_worker 2) rows []

abbrev pub middle : List Entry
middle = calls_then (one_worker 2) rows (later_then [])

abbrev pub calls : List Entry
calls = calls_then (one_worker 2) rows (later_then last)

-- alike in all but that step's shares and bit words
abbrev pub others : List Entry
others = calls_then two_workers used_rows (later_then last)

-- ---- the graph's words after each call
-- a manifold of one point, with that place, penetration, warm start normal impulse and feature
unfoldable pub stored_words : ℕ → ℕ → ℕ → ℕ → List ℕ
stored_words at penetration warm feature =
    1 ∷ one ∷ 0 ∷ 0 ∷ 0x3f00_0000 ∷ 0 ∷ 0 ∷ 0 ∷ 0 ∷ at ∷ 0 ∷ 0 ∷ at ∷ 0 ∷ 0 ∷ at ∷ 0 ∷ 0 ∷ penetration ∷ depth ∷ 0 ∷ 0 ∷ warm ∷ 0 ∷ 0 ∷ feature ∷ feature ∷ zeros (3 * point_size)

-- one manifold, or two
unfoldable pub single : ℕ → ℕ → List ℕ
single penetration warm = 1 ∷ stored_words 0 penetration warm 0 ++ zeros (5 * manifold_size)

unfoldable pub double : ℕ → List ℕ
double warm = 2 ∷ stored_words 0 depth warm 0 ++ stored_words one depth 0 1 ++ zeros (4 * manifold_size)

-- colliders, which have the bodies of the same numbers, and the place in the list
unfoldable pub named_words : ℕ → ℕ → ℕ → List ℕ
named_words a b index = a ∷ b ∷ 1 ∷ a ∷ 1 ∷ b ∷ index ∷ []

-- a contact that no step has updated, or that one has found disjoint
unfoldable pub new_words : ℕ → ℕ → ℕ → ℕ → List ℕ
new_words a b index disjoint = named_words a b index ++ 0 ∷ 1 ∷ 0 ∷ disjoint ∷ zeros (contact_size - 11)

-- two bodies at the origin, not turned
unfoldable pub cached : List ℕ
cached = 1 ∷ 0 ∷ 0 ∷ 0 ∷ one ∷ 0 ∷ 0 ∷ 0 ∷ one ∷ 0 ∷ 0 ∷ 0 ∷ 0 ∷ 0 ∷ 0 ∷ one ∷ []

-- a contact that generates constraints: whether it touches and is disjoint, the count change, the manifolds
unfoldable pub met_words : ℕ → ℕ → ℕ → ℕ → ℕ → ℕ → List ℕ → List ℕ
met_words a b index touching disjoint change manifolds = named_words a b index ++ touching ∷ 1 ∷ touching ∷ disjoint ∷ 0 ∷ 0 ∷ 1 ∷ 0 ∷ 0 ∷ 0 ∷ 0 ∷ change ∷ 0 ∷ cached ++ manifolds

-- after one addition, and after two
unfoldable pub first : List ℕ
first = 2 ∷ 1 ∷ 1 ∷ 0 ∷ 0 ∷ 0 ∷ 0 ∷ 0 ∷ new_words 0 1 0 0 ++ zeros contact_size

unfoldable pub second : List ℕ
second = 2 ∷ 2 ∷ 2 ∷ 0 ∷ 0 ∷ 1 ∷ 0 ∷ 0 ∷ new_words 0 1 0 0 ++ new_words 1 2 1 0

-- contact 0 stands alone, and id 1 is free
unfoldable pub alone : ℕ → ℕ → List ℕ → List ℕ
alone touching change manifolds = 2 ∷ 2 ∷ 1 ∷ 1 ∷ 0 ∷ 1 ∷ 1 ∷ 0 ∷ met_words 0 1 0 touching 0 change manifolds ++ new_words 1 2 1 1

abbrev pub touched : List ℕ
touched = alone 1 1 (single depth 0)

abbrev pub solved : List ℕ
solved = alone 1 1 (single depth one)

-- the point has moved apart by as much as the body
abbrev pub rested : List ℕ
rested = alone 1 1 (single 0x3dbc_cccd one)

-- the first point is matched with the old one
abbrev pub doubled : List ℕ
doubled = alone 1 0 (double one)

-- count change −2
abbrev pub parted : List ℕ
parted = alone 0 0xffff_fffe (zeros manifolds_size)

-- with contact 1 added, and with both touching
unfoldable pub readded : List ℕ
readded = 2 ∷ 2 ∷ 2 ∷ 0 ∷ 0 ∷ 1 ∷ 1 ∷ 0 ∷ met_words 0 1 0 0 0 0xffff_fffe (zeros manifolds_size) ++ new_words 0 2 1 0

unfoldable pub met : List ℕ
met = 2 ∷ 2 ∷ 2 ∷ 0 ∷ 0 ∷ 1 ∷ 1 ∷ 0 ∷ met_words 0 1 0 1 0 2 (double 0) ++ met_words 0 2 1 1 0 1 (single depth 0)

-- contact 1 has taken the place of contact 0, whose id is free
unfoldable pub left : List ℕ
left = 2 ∷ 2 ∷ 1 ∷ 1 ∷ 1 ∷ 1 ∷ 0 ∷ 0 ∷ met_words 0 1 0 1 1 2 (double 0) ++ met_words 0 2 0 1 0 1 (single depth 0)

-- ---- what the calls answer, with these words
abbrev after : Answer → List ℕ → Seen
after a g = record { answer = a; graph = g }

unfoldable pub calls_seen : List Seen → List Seen
calls_seen ss =
    after (of_addition (graph.added 0)) first
    ∷ after (of_addition (graph.added 1)) second
    ∷ after (of_addition (graph.refused_id 5)) second
    ∷ after (of_step (step.stepped 1 1 0)) touched
    ∷ after of_writes solved
    ∷ after (of_step (step.stepped 0 0 1)) rested
    ∷ after (of_step (step.refused 7)) rested
    ∷ after (of_step (step.stepped 0 1 0)) doubled
    ∷ ss

unfoldable pub later_seen : List Seen → List Seen
later_seen ss = after (of_step (step.stepped 1 1 0)) parted ∷ after (of_addition (graph.added 1)) readded ∷ after (of_step (step.stepped 2 2 0)) met ∷ ss

unfoldable pub last_seen : List Seen
last_seen = after (of_step (step.stepped 1 1 1)) left ∷ []

-- ---- all but the lists, for computing
unfoldable pub opened_words : ℕ
unfolding collider_words three_colliders body_words three_bodies settings proposed_words proposal_words one_worker two_workers given_as resting anew together leaving rows used_rows request solving stored_words single double named_words new_words cached met_words first second alone readded met left
opened_words = 0
