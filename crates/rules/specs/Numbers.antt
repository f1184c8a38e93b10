-- Searches through the numbers below n, in order: the first that passes a test, and the one that leads by a value. Definitions only.
use Rattle.std.specs.Prelude.{ℕ, zero, suc, Bool, true, false, cond, ◌&&◌, ◌||◌, Float, Option, None, Some}
use Rattle.std.specs.Float.Ieee.{lt}

-- what is found already, else k where it passes
abbrev pub else : Option ℕ → Bool → ℕ → Option ℕ
else (Some i) passes k = Some i
else None true k = Some k
else None false k = None

-- the first number below n that passes the test
unfoldable pub first : (ℕ → Bool) → ℕ → Option ℕ
first test zero = None
first test (suc k) = else (first test k) (test k) k

-- a value, and which number has it, if any
pub record Leading : Type 0 where
  pub value : Float
  pub who : Option ℕ

abbrev pub Better : Type 0
Better = Float → Float → Bool

-- a new value against the one that leads
abbrev pub greater : Better
greater new old = lt old new

abbrev pub less : Better
less new old = lt new old

-- k leads where it takes part and its value is better
abbrev pub overtaken : Better → (ℕ → Float) → (ℕ → Bool) → ℕ → Leading → Leading
overtaken better value among k l = cond (among k && better (value k) l.value) (record { value = value k; who = Some k }) l

-- Among the numbers below n that take part, the earliest of those with the best value, where that is better than the start.
unfoldable pub leader : Better → (ℕ → Float) → (ℕ → Bool) → Float → ℕ → Leading
leader better value among start zero = record { value = start; who = None }
leader better value among start (suc k) = overtaken better value among k (leader better value among start k)

-- every number below n passes, and some number below n passes
unfoldable pub every : (ℕ → Bool) → ℕ → Bool
every test zero = true
every test (suc k) = every test k && test k

unfoldable pub any : (ℕ → Bool) → ℕ → Bool
any test zero = false
any test (suc k) = any test k || test k
