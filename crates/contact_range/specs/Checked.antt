-- A graph that refusals 1 and 2 pass. Definitions only.
use Rattle.std.specs.Prelude.{List, ℕ}
use Rattle.contact_range.specs.Range.{InRange}
use Rattle.contact_range.specs.Conditions.{RightLength}

pub record Checked (g : List ℕ) : Type 0 where
  pub right : RightLength g
  pub range : InRange g
