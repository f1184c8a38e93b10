-- What `fill_rows` promises. Definitions only.
use Rattle.std.specs.Prelude.{◌≡◌, List, ℕ}
use Rattle.trace_rules.specs.Fields.{Line}
use Rattle.trace_rules.specs.Records.{step_record}

-- the rows hold what a step is given by these lines
pub record RowsFilled (ls : List Line) (settings colliders bodies : List ℕ) : Type 0 where
  pub settings_are : settings ≡ (step_record ls).settings
  pub colliders_are : colliders ≡ (step_record ls).colliders
  pub bodies_are : bodies ≡ (step_record ls).bodies
