-- The digits of a number at the end of a row of ten. Definitions only.
use Rattle.std.specs.Prelude.{ℕ, ◌≤◌, ◌≡◌, List, length, drop}
use Rattle.text.specs.Text.{decimal_text}

pub record Spelled (n : ℕ) (row : List ℕ) (first : ℕ) : Type 0 where
  pub inside : first ≤ 9
  pub size : length row ≡ 10
  pub digits : drop first row ≡ decimal_text n
