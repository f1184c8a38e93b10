-- `status_pass::settle::settle_stopped` meets its contract. Assumes nothing.
use mathlib.Core.Path.{ap, ◌∙◌}
use mathlib.Core.List.{List, [], ◌∷◌}
use Prim.Native.Nat.{ℕ}
use Rattle.rows.specs.Rows.{put}
use Rattle.status_pass.proofs.settle.settle_stopped.Goals as goal
use Rattle.status_pass.specs.Settled.{stopped_place}

pub returns : goal.returns
returns c = c.store-2.ensures ∙ ap (λ (x : List ℕ). put x stopped_place (0 ∷ [])) c.store.ensures
