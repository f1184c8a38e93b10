-- Of a graph in range, the table's number for a call on its words is the number for the call on what they record. Assumes nothing.
use Prim.Native.Nat.{ℕ, zero, suc, ◌*◌}
use Rattle.std.specs.Prelude.{◌≡◌, Bool, true, not, ◌&&◌, ◌||◌, length}
use Rattle.std.proofs.Math.Path.{refl, sym, ap}
use Rattle.std.proofs.Common.{◌∙◌}
use Rattle.std.proofs.Math.Bool.{cond, and-true, and_assoc, or-false, or_assoc}
use mathlib.Core.List.{List, [], ◌∷◌, ◌++◌, map, map-append}
use Rattle.std.proofs.Math.Dec.{eqb}
use Rattle.rows.specs.Slots.{upto}
use Rattle.rules.specs.Numbers.{every, any}
use Rattle.rule_laws.specs.NumberLaws.{every_same}
use Rattle.rules.specs.Records.{Pair}
use Rattle.manifold_records.specs.ListLaws.{length_map_upto}
use Rattle.contact_records.specs.Recorded.{names_at, pair_at}
use Rattle.collider.specs.Range.{settings_fit, colliders_fit, bodies_fit}
use Rattle.contact_graph.specs.AddedGraphLaws.{listed_pair}
use Rattle.contact_graph.specs.Calls.{request_fits, pair_stands, add_refusal}
use Rattle.contact_range.specs.Checked.{Checked}
use Rattle.contact_range.specs.Range.{right_length, in_range, stands, same_colliders}
use Rattle.contact_range.specs.RangeLaws.{holds, in_range_test}
use Rattle.contact_range.specs.RangeShownLaws.{right_length_test}
use Rattle.contact_range.specs.Recorded.{capacity_of, listed_count, graph_of}
use Rattle.contact_graph.specs.declared.call.Request.{Request}
use Rattle.layout.specs.Proposal.{proposal_size}
use Rattle.proposals.specs.Range.{hook_fits, proposal_fits}
use Rattle.shares.specs.Shares.{total_of, entry_at, times, counts_fit, entries_stand, active_once, shares_fit}
use Rattle.step.specs.Step.{Given, Rows, given_long, rows_long, lengths_fit, hooks_fit, rows_in_range, proposals_fit, step_refusal}
use Rattle.contact_runs.specs.Refusals.{all_pairs, some_pair, plain_add_refusal, plain_hooks_fit, plain_proposals_fit, plain_shares_fit, plain_step_refusal}

-- ---- a test of pairs by their place
module _ (f : Pair → Bool) where
  all_next : (ps : List Pair) (p : Pair) → all_pairs f (ps ++ p ∷ []) ≡ (all_pairs f ps && f p)
  unfolding all_pairs
  all_next [] p = and-true (f p)
  all_next (q ∷ ps) p = ap (λ (b : Bool). f q && b) (all_next ps p) ∙ sym (and_assoc (f q) (all_pairs f ps) (f p))

  pub all_upto : (h : ℕ → Pair) (n : ℕ) → all_pairs f (map h (upto n)) ≡ every (λ k. f (h k)) n
  unfolding all_pairs upto every
  all_upto h zero = refl
  all_upto h (suc n) =
      ap (all_pairs f) (map-append h (upto n) (n ∷ [])) ∙ all_next (map h (upto n)) (h n) ∙ ap (λ (b : Bool). b && f (h n)) (all_upto h n)

  some_next : (ps : List Pair) (p : Pair) → some_pair f (ps ++ p ∷ []) ≡ (some_pair f ps || f p)
  unfolding some_pair
  some_next [] p = or-false (f p)
  some_next (q ∷ ps) p = ap (λ (b : Bool). f q || b) (some_next ps p) ∙ sym (or_assoc (f q) (some_pair f ps) (f p))

  pub some_upto : (h : ℕ → Pair) (n : ℕ) → some_pair f (map h (upto n)) ≡ any (λ k. f (h k)) n
  unfolding some_pair upto any
  some_upto h zero = refl
  some_upto h (suc n) =
      ap (some_pair f) (map-append h (upto n) (n ∷ [])) ∙ some_next (map h (upto n)) (h n) ∙ ap (λ (b : Bool). b || f (h n)) (some_upto h n)

-- ---- the tests of a graph, on what its words record
module _ (g : List ℕ) where
  pub plain_pairs : (graph_of g).pairs ≡ map (listed_pair g) (upto (listed_count g))
  unfolding graph_of
  plain_pairs = refl

  pub plain_capacity : (graph_of g).capacity ≡ capacity_of g
  unfolding graph_of
  plain_capacity = refl

  pub plain_count : length (graph_of g).pairs ≡ listed_count g
  unfolding graph_of
  plain_count = length_map_upto (listed_pair g) (listed_count g)

  stands_plain : (id : ℕ) → some_pair (λ (p : Pair). eqb p.names.id id) (graph_of g).pairs ≡ stands g id
  unfolding graph_of pair_at names_at stands
  stands_plain id = some_upto (λ (p : Pair). eqb p.names.id id) (listed_pair g) (listed_count g)

  pair_plain : (a b : ℕ) → some_pair (λ (p : Pair). same_colliders a b p.names.collider1 p.names.collider2) (graph_of g).pairs ≡ pair_stands g a b
  unfolding graph_of pair_at names_at pair_stands
  pair_plain a b = some_upto (λ (p : Pair). same_colliders a b p.names.collider1 p.names.collider2) (listed_pair g) (listed_count g)

  hooks_plain : (proposals : List ℕ) → plain_hooks_fit proposals (graph_of g).pairs ≡ hooks_fit proposals g
  unfolding graph_of pair_at names_at plain_hooks_fit hooks_fit
  hooks_plain proposals = all_upto (λ (p : Pair). hook_fits proposals (p.names.id * proposal_size)) (listed_pair g) (listed_count g)

  proposals_plain : (proposals : List ℕ) → plain_proposals_fit proposals (graph_of g).pairs ≡ proposals_fit proposals g
  unfolding graph_of pair_at names_at plain_proposals_fit proposals_fit
  proposals_plain proposals = all_upto (λ (p : Pair). proposal_fits proposals (p.names.id * proposal_size)) (listed_pair g) (listed_count g)

  once_plain : (xs : List ℕ) → all_pairs (λ (p : Pair). eqb (times (entry_at xs) p.names.id (total_of xs)) 1) (graph_of g).pairs ≡ active_once xs g
  unfolding graph_of pair_at names_at active_once
  once_plain xs = all_upto (λ (p : Pair). eqb (times (entry_at xs) p.names.id (total_of xs)) 1) (listed_pair g) (listed_count g)

  listed_plain : (xs : List ℕ) → every (λ j. some_pair (λ (p : Pair). eqb p.names.id (entry_at xs j)) (graph_of g).pairs) (total_of xs) ≡ entries_stand xs g
  unfolding entries_stand
  listed_plain xs =
      every_same (λ j. some_pair (λ (p : Pair). eqb p.names.id (entry_at xs j)) (graph_of g).pairs) (λ j. stands g (entry_at xs j)) (total_of xs)
      (λ j l. stands_plain (entry_at xs j))

  shares_plain : (xs : List ℕ) → plain_shares_fit xs (graph_of g) ≡ shares_fit xs g
  unfolding plain_shares_fit shares_fit counts_fit graph_of
  shares_plain xs = λ i. counts_fit xs g && (listed_plain xs i && once_plain xs i)

-- ---- the numbers
module _ {g : List ℕ} (c : Checked g) where
  right : right_length g ≡ true
  right = right_length_test c.right

  range : in_range g ≡ true
  range = holds (in_range g) (in_range_test c.range)

  pub add_refusal_lem : (a : Request) → add_refusal g a ≡ plain_add_refusal a (graph_of g)
  unfolding add_refusal plain_add_refusal
  add_refusal_lem a =
      λ i. cond (not (right i)) 1
      (cond (not (range i && request_fits a)) 2
      (cond (eqb a.collider1 a.collider2) 3
      (cond (sym (pair_plain g a.collider1 a.collider2) i) 4
      (cond (eqb (sym (plain_count g) i) (sym (plain_capacity g) i)) 5 0))))

  pub step_refusal_lem : (x : Given) (l : Rows) → step_refusal x g l ≡ plain_step_refusal x l (graph_of g)
  unfolding step_refusal plain_step_refusal lengths_fit rows_in_range
  step_refusal_lem x l =
      λ i. cond (not (right i && (given_long x (sym (plain_capacity g) i) && rows_long l (sym (plain_capacity g) i)))) 1
      (cond (not (settings_fit x.settings && (colliders_fit x.colliders && (bodies_fit x.bodies && (range i && sym (hooks_plain g x.proposals) i))))) 2
      (cond (not (sym (proposals_plain g x.proposals) i)) 6
      (cond (not (sym (shares_plain g x.shares) i)) 7 0)))
