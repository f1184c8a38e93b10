-- A letter of no record has no shape, and each kind of line has a letter of its own. Assumes nothing.
use Rattle.std.specs.Prelude.{◌≡◌, refl, ℕ, cond, eqb, None}
use Rattle.std.proofs.Common.{sym, ap, ◌∙◌, ne_eqb}
use Rattle.trace_rules.specs.Fields.{shape}
use Rattle.trace_lines.specs.Items.{letter_of}
use Rattle.trace_lines.specs.declared.line_kind.LineKind.{LineKind}
use Rattle.trace_lines.specs.declared.line_kind.LineKind.TheVariants.{Addition, Settings, Collider, Body, Hook, Manifold, Point, Go}

pub no_shape : (l : ℕ) → (l ≡ 65 → ⊥) → (l ≡ 84 → ⊥) → (l ≡ 67 → ⊥) → (l ≡ 66 → ⊥) → (l ≡ 72 → ⊥) → (l ≡ 77 → ⊥) → (l ≡ 80 → ⊥) → (l ≡ 71 → ⊥) → shape l ≡ None
unfolding shape
no_shape l a t c b h m p g = rw (ne_eqb l 65 a, ne_eqb l 84 t, ne_eqb l 67 c, ne_eqb l 66 b, ne_eqb l 72 h, ne_eqb l 77 m, ne_eqb l 80 p, ne_eqb l 71 g)

kind_by : ℕ → LineKind
kind_by l =
    cond (eqb l 65) Addition
    (cond (eqb l 84) Settings (cond (eqb l 67) Collider (cond (eqb l 66) Body (cond (eqb l 72) Hook (cond (eqb l 77) Manifold (cond (eqb l 80) Point Go))))))

kind_back : (k : LineKind) → kind_by (letter_of k) ≡ k
unfolding kind_by
kind_back Addition = refl
kind_back Settings = refl
kind_back Collider = refl
kind_back Body = refl
kind_back Hook = refl
kind_back Manifold = refl
kind_back Point = refl
kind_back Go = refl

pub one_letter : (k j : LineKind) → letter_of k ≡ letter_of j → k ≡ j
one_letter k j e = sym (kind_back k) ∙ ap kind_by e ∙ kind_back j
