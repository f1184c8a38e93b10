-- What the recycle test's branches say: each test that holds abandons recycling, and so no NaN does. Assumes nothing.
use Rattle.std.specs.Prelude.{◌≡◌, Bool, true, false, Float, Option, None, Some}
use Rattle.std.proofs.Math.Path.{refl}
use Rattle.std.specs.Float.{nan}
use Rattle.std.specs.Float.Ieee.{le}
use Rattle.math.specs.Constants.{zero_f}
use Rattle.math.specs.Floats.{◌⊖◌, ◌⊗◌}
use Rattle.math.specs.Laws.{nan_le, le_nan}
use Rattle.math.specs.Root.{root}
use Rattle.rules.specs.Inputs.{Settings}
use Rattle.rules.specs.Records.{Cache}
use Rattle.rules.specs.Recycling.{scaled_recycle, tolerance_for, least_squared_dot, squared_motion, arc, recycles, rotated_too_far, moved_too_far, arc_too_long}
use Rattle.rules.specs.Sides.{Side}

module _ (s : Settings) (touching : Bool) (a b : Side) where
  pub recycling_off_lem : (o : Option Cache) → le (scaled_recycle s) zero_f ≡ true → false ≡ recycles s touching a b o
  unfolding recycles
  recycling_off_lem None p = refl
  recycling_off_lem (Some k) p = rw p

  pub recycle_none : (o : Option Cache) → o ≡ None → false ≡ recycles s touching a b o
  unfolding recycles
  recycle_none o e = rw e

  module _ (o : Option Cache) (k : Cache) (e : o ≡ Some k) (on : le (scaled_recycle s) zero_f ≡ false) where
    pub rotated_too_far_lem : {t : Float} → t ≡ least_squared_dot a b k → le t s.recycle_cosine ≡ true → false ≡ recycles s touching a b o
    unfolding recycles
    rotated_too_far_lem p q = rw (e, on, ← p, q)

    pub recycle_far : {t d c : Float} → t ≡ least_squared_dot a b k → le t s.recycle_cosine ≡ false → c ≡ tolerance_for s touching → d ≡ squared_motion a b k → le (c ⊗ c) d ≡ true → false ≡ recycles s touching a b o
    unfolding recycles
    recycle_far p q x y z = rw (e, on, ← p, q, ← x, ← y, z)

    pub arc_too_long_lem : {t d c w r : Float} → t ≡ least_squared_dot a b k → le t s.recycle_cosine ≡ false → c ≡ tolerance_for s touching → d ≡ squared_motion a b k → le (c ⊗ c) d ≡ false
        → w ≡ arc a b k → r ≡ root d → le (c ⊖ r) w ≡ true → false ≡ recycles s touching a b o
    unfolding recycles
    arc_too_long_lem p q x y z u v m = rw (e, on, ← p, q, ← x, ← y, z, ← u, ← v, m)

    pub recycle_holds : {t d c w r : Float} → t ≡ least_squared_dot a b k → le t s.recycle_cosine ≡ false → c ≡ tolerance_for s touching → d ≡ squared_motion a b k → le (c ⊗ c) d ≡ false
        → w ≡ arc a b k → r ≡ root d → le (c ⊖ r) w ≡ false → true ≡ recycles s touching a b o
    unfolding recycles
    recycle_holds p q x y z u v m = rw (e, on, ← p, q, ← x, ← y, z, ← u, ← v, m)

-- NaN abandons nothing: no test holds of it
pub nan_not_rotated : (s : Settings) → rotated_too_far s nan ≡ false
nan_not_rotated s = nan_le s.recycle_cosine

pub nan_not_far : (tolerance : Float) → moved_too_far tolerance nan ≡ false
nan_not_far tolerance = le_nan (tolerance ⊗ tolerance)

pub nan_no_arc : (tolerance d2 : Float) → arc_too_long tolerance d2 nan ≡ false
nan_no_arc tolerance d2 = le_nan (tolerance ⊖ root d2)
