-- `status_pass::settle::settle_started` meets its contract. Assumes nothing.
use mathlib.Core.Path.{ap, ◌∙◌}
use mathlib.Core.List.{List, [], ◌∷◌}
use Prim.Native.Nat.{ℕ}
use Rattle.rows.specs.Rows.{put}
use Rattle.status_pass.proofs.settle.settle_started.Goals as goal
use Rattle.status_pass.specs.Settled.{generating_place, started_place}

pub returns : goal.returns
returns c =
    c.store-3.ensures ∙ ap (λ (x : List ℕ). put x generating_place (0 ∷ [])) (c.store-2.ensures ∙ ap (λ (x : List ℕ). put x started_place (0 ∷ [])) c.store.ensures)
