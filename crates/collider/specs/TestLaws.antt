-- Tests one after another, as `&&` takes them: one that passes leaves the rest, one that fails decides. Assumes nothing.
use Rattle.std.specs.Prelude.{◌≡◌, Bool, true, false, ◌&&◌}
use Rattle.std.proofs.Common.{sym, ap, ◌∙◌}

pub passes : {p a b r : Bool} → p ≡ a → p ≡ true → r ≡ b → r ≡ (a && b)
passes {p} {a} {b} {r} e t q = q ∙ ap (λ (x : Bool). x && b) (sym t ∙ e)

pub fails : {p a : Bool} (b : Bool) → p ≡ a → p ≡ false → p ≡ (a && b)
fails {p} {a} b e f = f ∙ ap (λ (x : Bool). x && b) (sym f ∙ e)
