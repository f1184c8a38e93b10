-- `math::root::root` meets its contract: `CaseLaws` has what each test says of x. Assumes nothing.
use Rattle.std.proofs.Common.{◌≡◌, ℕ, ◌-◌, ◌*◌, ◌/◌, ◌^◌, ◌<◌, true, false, T, sym, refl, ap, ◌∙◌, subst, mul-pos, arith, pow_pos}
use lib.Ieee.{Float, binary32, ne, of_bits}
use lib.Ieee.Bits.{of_bits-to_bits}
use lib.Ieee.Exact.{HasValue}
use lib.Ieee.Positive.{positive, value_pos}
use Rattle.math.specs.Laws.{is_nan_lem, differs_is}
use Rattle.math.specs.Root.{nearest_root, root_of, root}
use Rattle.math.specs.Estimate.{leading}
use Rattle.math.proofs.CaseLaws.{zero_is, infinity_is, nan_made, is_normal, not_normal, of_zero, of_negative, of_infinity, left, of_value, subnormal, normal, pattern_lt}
use Rattle.math.proofs.root.root.Goals as goal
use Rattle.math.proofs.root.root.Goals.{After-bits_of-b, Else-x-4}

-- x is the float of its pattern
module _ (c : After-bits_of-b) where
  abbrev x : Float
  x = c.args.x

  abbrev b : ℕ
  b = c.bits_of-b.result

  is : x ≡ of_bits binary32 b
  is = sym (of_bits-to_bits binary32 x (subst T (sym c.well_formed.0.1) tt)) ∙ ap (of_bits binary32) (sym c.bits_of-b.ensures)

  root_is : (a : ℕ) → 0 < a → HasValue (of_bits binary32 b) false a (2 ^ 149) → root_of binary32 x ≡ nearest_root binary32 (a * 2 ^ 149)
  root_is a A v = ap (root_of binary32) is ∙ of_value binary32 (of_bits binary32 b) a v A

pub returns-then-b : goal.returns-then-b
unfolding root
returns-then-b c =
    let at = c.before.before.before in
    let n = b at in
    c.float_of.ensures
    ∙ c.root_normal.ensures
    ∙ sym (root_is at (leading n * 2 ^ (n / 2 ^ 23 - 1)) (mul-pos (omega arith) (pow_pos (n / 2 ^ 23 - 1))) (normal n (is_normal n c.if-b.true)))

of_nan : (x : Float) → ne x x ≡ true → x ≡ root_of binary32 x
unfolding root_of
of_nan x e = let n = is_nan_lem x (sym (differs_is x) ∙ e) in subst (λ (y : Float). y ≡ root_of binary32 y) (sym n) refl

pub returns-then-x : goal.returns-then-x
unfolding root
returns-then-x c = of_nan c.args.x c.if-x.true

pub returns-then-x-2 : goal.returns-then-x-2
unfolding root
returns-then-x-2 c = sym (of_zero binary32 _ (rw zero_is at c.if-x-2.true))

pub returns-then-x-3 : goal.returns-then-x-3
unfolding root
returns-then-x-3 c = nan_made ∙ sym (of_negative binary32 _ (rw zero_is at c.if-x-3.true))

pub returns-then-x-4 : goal.returns-then-x-4
unfolding root
returns-then-x-4 c = sym (of_infinity binary32 _ (rw infinity_is at c.if-x-4.true))

-- what is left is finite, above zero and not normal, so its pattern is a subnormal number's
module _ (c : Else-x-4) where
  abbrev pattern : ℕ
  pattern = c.bits_of-b.result

  above : T (positive (of_bits binary32 pattern))
  above =
      let at = c.before.before.before.before.before in
      subst (λ (y : Float). T (positive y)) (is at)
      (left (x at) (sym (differs_is (x at)) ∙ c.if-x.false) (rw zero_is at c.if-x-2.false) (rw zero_is at c.if-x-3.false) (rw infinity_is at c.if-x-4.false))

  below : pattern < 2 ^ 23
  below = not_normal pattern c.if-b.false (pattern_lt pattern above)

  some : 0 < pattern
  some = value_pos (of_bits binary32 pattern) pattern (2 ^ 149) above (pow_pos 149) (subnormal pattern below)

pub root_subnormal-requires : goal.root_subnormal-requires
root_subnormal-requires c = (some c, below c)

pub returns : goal.returns
unfolding root
returns c =
    let left = c.before.before in
    c.float_of-2.ensures
    ∙ c.root_subnormal.ensures
    ∙ sym (root_is left.before.before.before.before.before (pattern left) (some left) (subnormal (pattern left) (below left)))
