-- `contact_graph::add::pair_stands` meets its contract: some pair passed is the same, or none. Assumes nothing.
use Prim.Native.Nat.{ℕ, zero, suc}
use mathlib.Core.Bool.{Bool, true, false, ◌||◌}
use mathlib.Core.List.{List, [], ◌∷◌, ◌++◌, map}
use native.Mathlib.Omega.{arith}
use mathlib.Core.Path.{◌≡◌, refl, sym, ap, ◌∙◌}
use borrow.Author.Rules.{rules}
use Rattle.std.proofs.Math.Numerals.{add-one}
use Rattle.std.proofs.lemmas.Iterator.{YieldsList-from_range, serves_from_Range}
use Rattle.std.proofs.lemmas.Iterator.Search.{any_from_yields_List}
use Rattle.std.proofs.lemmas.List.{map-id}
use Rattle.std.proofs.lemmas.List.Folds.{list_any-append}
use Rattle.std.proofs.lemmas.List.FromFn.{map-range_with_len_more}
use Rattle.std.specs.List.{list_any, range_with_len}
use Rattle.rules.specs.Numbers.{any}
use Rattle.contact_graph.specs.Calls.{stands_at, pair_stands}
use Rattle.contact_range.specs.Recorded.{listed_count}
use Rattle.contact_graph.proofs.add.pair_stands.Goals as goal

listed_next : (n : ℕ) → range_with_len 0 (suc n) ≡ range_with_len 0 n ++ n ∷ []
listed_next n =
    sym (map-id (range_with_len 0 (suc n)))
    ∙ ap (λ (k : ℕ). map (λ (x : ℕ). x) (range_with_len 0 k)) (sym (add-one n))
    ∙ map-range_with_len_more (λ (x : ℕ). x) 0 n n (omega arith)
    ∙ ap (λ (xs : List ℕ). xs ++ n ∷ []) (map-id (range_with_len 0 n))

with_false : (a b : Bool) → a || (b || false) ≡ a || b
with_false true b = refl
with_false false true = refl
with_false false false = refl

any_listed : (test : ℕ → Bool) (n : ℕ) → list_any test (range_with_len 0 n) ≡ any test n
unfolding any
any_listed test zero = refl
any_listed test (suc n) =
    ap (list_any test) (listed_next n)
    ∙ list_any-append test (range_with_len 0 n) (n ∷ [])
    ∙ ap (λ (b : Bool). b || (test n || false)) (any_listed test n)
    ∙ with_false (any test n) (test n)

pub any-requires-clause-callable : goal.any-requires-clause-callable
any-requires-clause-callable c = serves_from_Range (λ x q r. search rules) (λ x low below. search rules)

pub returns : goal.returns
unfolding pair_stands
returns c =
    let g = c.args.graph.now in
    any_from_yields_List (stands_at g c.args.a c.args.b) _ _ c.any.result c.any.ensures.ran (YieldsList-from_range 0 (listed_count g) (listed_count g) (search rules) (omega arith)) (λ x b q k. search rules)
    ∙ any_listed (stands_at g c.args.a c.args.b) (listed_count g)
