-- The specification as definitions, and nothing else. A map: the files in the order in which to read them, each with the part of the specification that it says.
-- The comment above a definition has the specification's words, or the rule's number. With the two side by side, an hour is enough.
--
-- Not here: 'Float leaves' is the crate `math` (⊕ ⊖ ⊗ ⊘ round once each); the table of refusals speaks of words, and stands with each call
-- (contact_graph: Calls, contact_types: Prune, step: Step), and for the plain run in contact_runs: Refusals; workers and their bit words are in shares and update_pass; 'Prune listing' is in prune_listing and prune_answer;
-- theorems about these definitions are in rule_laws, the eleven proved cases among them (CaseLaws).

-- 'The door': the limits that the table names; what a step takes; pairs, edges, manifolds and points as the Rust records them
pub mod Limits
pub mod Inputs
pub mod Records
-- 'The door', and in 'Status pass' the new id and the removal: lay out, add, remove, and the place where a look up finds its contact
pub mod Graph
-- 'One pair's update', rule by rule; Update puts all twelve together
-- rules 2 and 3: overlap, layers, body values
pub mod Sides
-- rules 4 and 5: recycling
pub mod Recycling
-- rules 7 and 8: friction, restitution, margins, the contact distance
pub mod Surface
-- rule 9: points moved, those that stay, pruning; `prune_points` of 'Matching and pruning' is Pruning, by the searches of Numbers
pub mod Numbers
pub mod Pruning
pub mod Filtering
-- rule 11's `match_contacts` of 'Matching and pruning'; when it is done, and its threshold, is in Update
pub mod Matching
-- rules 1, 6, 10 and 12, rule 8's reported distance, what rules 2, 5 and 9 leave of a pair, and all in their order
pub mod Update
-- 'Status pass': the five cases, the events and the changes; and a whole step
pub mod Status
-- 'Replaying' and 'The plain run': what a solver may write between two calls, the run of a list of calls, the replay of its changes
pub mod Solver
pub mod Runs
