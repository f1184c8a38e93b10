-- `all` over the numbers below n answers whether every one passes. Assumes nothing.
use Prim.Native.Nat.{ℕ, zero, suc, ◌+◌}
use denote.Param.Members.{Mut}
use mathlib.Core.Bool.{Bool, true, false, ◌&&◌}
use mathlib.Core.List.{List, [], ◌∷◌, ◌++◌, map}
use native.Mathlib.Omega.{arith}
use mathlib.Core.Path.{◌≡◌, refl, sym, ap, ◌∙◌}
use Rattle.std.proofs.Math.Numerals.{add-one}
use Rattle.std.proofs.lemmas.Iterator.{YieldsList-from_range}
use Rattle.std.proofs.lemmas.Iterator.Search.{all_from_yields_List}
use Rattle.std.proofs.lemmas.List.{map-id}
use Rattle.std.proofs.lemmas.List.Folds.{list_all-append}
use Rattle.std.proofs.lemmas.List.FromFn.{map-range_with_len_more}
use Rattle.std.specs.Fn.{Called}
use Rattle.std.specs.Iterator.{YieldsThen}
use Rattle.std.proofs.iter.Yields.{nat_range_steps}
use Rattle.std.specs.declared.ops.Range.{Range}
use Rattle.std.specs.List.{FoldsTo, list_all, range_with_len}
use Rattle.std.specs.Option.{MatchOption}
use Rattle.std.specs.Prelude.{Option}
use Rattle.rules.specs.Numbers.{every}

listed_next : (n : ℕ) → range_with_len 0 (suc n) ≡ range_with_len 0 n ++ n ∷ []
listed_next n =
    sym (map-id (range_with_len 0 (suc n)))
    ∙ ap (λ (k : ℕ). map (λ (x : ℕ). x) (range_with_len 0 k)) (sym (add-one n))
    ∙ map-range_with_len_more (λ (x : ℕ). x) 0 n n (omega arith)
    ∙ ap (λ (xs : List ℕ). xs ++ n ∷ []) (map-id (range_with_len 0 n))

with_true : (a b : Bool) → a && (b && true) ≡ a && b
with_true true true = refl
with_true true false = refl
with_true false b = refl

every_listed : (test : ℕ → Bool) (n : ℕ) → list_all test (range_with_len 0 n) ≡ every test n
unfolding every
every_listed test zero = refl
every_listed test (suc n) =
    ap (list_all test) (listed_next n)
    ∙ list_all-append test (range_with_len 0 n) (n ∷ [])
    ∙ ap (λ (b : Bool). b && (test n && true)) (every_listed test n)
    ∙ with_true (every test n) (test n)

-- from the call's clause `ran`, and what one call of the closure answers
pub every_from_all : {F : Type 0} {g : Mut F (ℕ × Unit {0}) Bool} {s : Range ℕ} (test : ℕ → Bool) (n : ℕ) (u : Range ℕ) (f : F) (r : Bool)
    → (xs : List ℕ) × (o : Option ℕ) × (j : F) × YieldsThen nat_range_steps s xs o u × FoldsTo (λ p x q. Called g p (x, tt) true q) f xs j × MatchOption o (r ≡ true) (λ x. (r ≡ false) × ((h : F) × Called g j (x, tt) false h))
    → s ≡ record { start = 0; end = n } → ((x : ℕ) (b : Bool) (q : F) → Called g f (x, tt) b q → (q ≡ f) × (b ≡ test x)) → r ≡ every test n
every_from_all test n u f r ran starts called = all_from_yields_List test u f r ran (YieldsList-from_range 0 n n starts (omega arith)) called ∙ every_listed test n
