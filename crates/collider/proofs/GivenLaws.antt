-- The first value that is given, seen through a view of it, and the larger of two numbers by its test. Assumes nothing.
use Rattle.std.specs.Prelude.{◌≡◌, refl, ℕ, max, cond, ltb, Option, Some, None, unwrap_or, option_map}
use Rattle.std.proofs.Common.{arith}
use Rattle.std.proofs.lemmas.Bool.Decides.{nat_tests}
use Rattle.std.specs.Option.{option_or}

module _ {A B : Type 0} (f : A → B) where
  pub seen_or_else : (o : Option A) (d : A) → f (unwrap_or o d) ≡ unwrap_or (option_map f o) (f d)
  seen_or_else None d = refl
  seen_or_else (Some a) d = refl

  pub seen_first : (o p : Option A) (d : A) → f (unwrap_or (option_or o p) d) ≡ unwrap_or (option_or (option_map f o) (option_map f p)) (f d)
  seen_first None p d = seen_or_else p d
  seen_first (Some a) p d = refl

pub larger : (a b : ℕ) → max a b ≡ cond (ltb a b) b a
larger a b = grind (arith, nat_tests)
