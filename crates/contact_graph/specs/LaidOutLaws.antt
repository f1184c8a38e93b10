-- A graph that was laid out has the right length, is in range, and records an empty graph. Assumes nothing.
use Prim.Native.Nat.{ℕ, zero, suc, ◌-◌, ◌≤◌, ◌<◌}
use native.Mathlib.Omega.{arith}
use Rattle.std.specs.Prelude.{◌≡◌, Bool, true, length, get_or}
use Rattle.std.proofs.Math.Path.{refl, ap}
use Rattle.std.proofs.Common.{sym, ◌∙◌}
use mathlib.Core.List.{List, map}
use borrow.Author.Tests.{lt-ltb, le-leb, eq-eqb}
use Rattle.rows.specs.Slots.{upto}
use Rattle.rules.specs.Graph.{empty_graph}
use Rattle.rules.specs.Numbers.{every}
use Rattle.manifold_records.specs.Written.{zeros}
use Rattle.contact_records.specs.Recorded.{pair_at}
use Rattle.layout.specs.Graph.{graph_length}
use Rattle.contact_range.specs.Recorded.{capacity_of, given_of, listed_count, free_count, free_at, listed_at, contact_at, graph_of}
use Rattle.contact_range.specs.Range.{right_length, counts_fit, listed_given, names_back, contacts_fit, free_given, free_once, free_apart, given_known, pairs_once, InRange}
use Rattle.contact_range.specs.RangeLaws.{shown}
use Rattle.contact_graph.specs.Calls.{laid_out}
use Rattle.manifold_records.specs.ListLaws.{length_zeros}
use Rattle.rules.specs.Limits.{most_contacts}

pub zeros_at : (n k : ℕ) → get_or (zeros n) k 0 ≡ 0
unfolding zeros
zeros_at zero k = refl
zeros_at (suc n) zero = refl
zeros_at (suc n) (suc k) = zeros_at n k

module _ (capacity : ℕ) (least : 0 < capacity) (most : capacity ≤ most_contacts) where
  abbrev laid : List ℕ
  laid = laid_out capacity

  pub laid_capacity : capacity_of laid ≡ capacity
  unfolding laid_out
  laid_capacity = refl

  pub laid_given : given_of laid ≡ 0
  unfolding laid_out
  laid_given = zeros_at (graph_length capacity - 1) 0

  pub laid_listed : listed_count laid ≡ 0
  unfolding laid_out
  laid_listed = zeros_at (graph_length capacity - 1) 1

  pub laid_freed : free_count laid ≡ 0
  unfolding laid_out
  laid_freed = zeros_at (graph_length capacity - 1) 2

  laid_length : length laid ≡ graph_length capacity
  unfolding laid_out
  laid_length = ap suc (length_zeros (graph_length capacity - 1)) ∙ (let e : suc (graph_length capacity - 1) ≡ graph_length capacity = omega arith in e)

  pub laid_right : right_length laid ≡ true
  unfolding right_length
  laid_right =
      rw (
        lt-ltb 0 (capacity_of laid) (omega (arith, laid_capacity)),
        le-leb (capacity_of laid) most_contacts (omega (arith, laid_capacity)),
        eq-eqb (length laid) (graph_length (capacity_of laid)) (laid_length ∙ ap graph_length (sym laid_capacity)),
      )

  every_none : (test : ℕ → Bool) (n : ℕ) → n ≡ 0 → every test n ≡ true
  unfolding every
  every_none test n e = ap (every test) e

  laid_counts : counts_fit laid ≡ true
  unfolding counts_fit
  laid_counts = rw (le-leb (given_of laid) (capacity_of laid) (omega (arith, laid_given)), le-leb (listed_count laid) (capacity_of laid) (omega (arith, laid_listed)), le-leb (free_count laid) (capacity_of laid) (omega (arith, laid_freed)))

  pub laid_in_range : InRange laid
  unfolding listed_given names_back contacts_fit free_given free_once free_apart given_known pairs_once
  laid_in_range =
      record {
        counts = shown laid_counts;
        given = shown (every_none _ (listed_count laid) laid_listed);
        back = shown (every_none _ (listed_count laid) laid_listed);
        contacts = shown (every_none _ (listed_count laid) laid_listed);
        freed = shown (every_none _ (free_count laid) laid_freed);
        once = shown (every_none _ (free_count laid) laid_freed);
        apart = shown (every_none _ (free_count laid) laid_freed);
        known = shown (every_none _ (given_of laid) laid_given);
        pairs = shown (every_none _ (listed_count laid) laid_listed);
      }

  pub laid_empty : graph_of laid ≡ empty_graph capacity
  unfolding graph_of upto
  laid_empty =
      λ i. record {
        capacity = laid_capacity i;
        given = laid_given i;
        free = map (free_at laid) (upto (laid_freed i));
        pairs = map (λ p. pair_at laid (contact_at laid (listed_at laid p)) (listed_at laid p)) (upto (laid_listed i));
      }
