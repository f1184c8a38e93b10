-- Which lay outs are refused, and the words of one that is not. Assumes nothing.
use Rattle.std.specs.Prelude.{ℕ, zero, suc, ◌-◌, ◌≤◌, ◌<◌, ◌≡◌, List, ◌∷◌, length, set, Err, Ok}
use native.Mathlib.Omega.{arith}
use Rattle.std.proofs.Common.{ap, ◌∙◌}
use borrow.Author.Tests.{eq-eqb, ne_eqb, lt-ltb, le-leb, lt-leb}
use Rattle.manifold_records.specs.Written.{zeros}
use Rattle.layout.specs.Graph.{graph_length}
use Rattle.contact_types.specs.declared.refusal.Refusal.TheVariants.{WrongLength}
use Rattle.contact_graph.specs.Calls.{lay_out_refusal, laid_out}
use Rattle.contact_graph.specs.Promises.{LaidOut}
use Rattle.rules.specs.Limits.{most_contacts}

module _ (g : List ℕ) (capacity : ℕ) where
  pub lay_out_none : capacity ≡ 0 → lay_out_refusal g capacity ≡ 1
  unfolding lay_out_refusal
  lay_out_none e = rw e

  pub lay_out_many : most_contacts < capacity → lay_out_refusal g capacity ≡ 1
  unfolding lay_out_refusal
  lay_out_many h = let p : 0 < capacity = omega arith in rw (lt-ltb 0 capacity p, lt-leb capacity most_contacts h)

  pub lay_out_length : 0 < capacity → capacity ≤ most_contacts → (length g ≡ graph_length capacity → ⊥) → lay_out_refusal g capacity ≡ 1
  unfolding lay_out_refusal
  lay_out_length p h n = rw (lt-ltb 0 capacity p, le-leb capacity most_contacts h, ne_eqb (length g) (graph_length capacity) n)

  pub lay_out_done : 0 < capacity → capacity ≤ most_contacts → length g ≡ graph_length capacity → lay_out_refusal g capacity ≡ 0
  unfolding lay_out_refusal
  lay_out_done p h e = rw (lt-ltb 0 capacity p, le-leb capacity most_contacts h, eq-eqb (length g) (graph_length capacity) e)

set_zeros : (n capacity : ℕ) → 0 < n → set (zeros n) 0 capacity ≡ capacity ∷ zeros (n - 1)
unfolding zeros
set_zeros zero capacity h = absurd (omega arith)
set_zeros (suc n) capacity h = ap (λ (k : ℕ). capacity ∷ zeros k) (let e : n ≡ suc n - 1 = omega arith in e)

-- the words that are cleared, and the capacity stored
pub laid_out_lem : (g : List ℕ) (capacity : ℕ) {h : List ℕ} → length g ≡ graph_length capacity → h ≡ zeros (length g) → set h 0 capacity ≡ laid_out capacity
unfolding laid_out
laid_out_lem g capacity e p =
    ap (λ (l : List ℕ). set l 0 capacity) (p ∙ ap zeros e) ∙ set_zeros (graph_length capacity) capacity (omega arith)

-- ---- so the promise is kept
pub lay_out_refused : (g : List ℕ) (capacity : ℕ) → lay_out_refusal g capacity ≡ 1 → LaidOut g capacity g (Err WrongLength)
lay_out_refused g capacity e = record { answer = rw e; graph = rw e }

pub lay_out_kept : (g : List ℕ) (capacity : ℕ) {h : List ℕ} → lay_out_refusal g capacity ≡ 0 → h ≡ laid_out capacity → LaidOut g capacity h (Ok tt)
lay_out_kept g capacity e p = record { answer = rw e; graph = p ∙ rw e }
