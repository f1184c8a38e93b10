-- What is a zero or a NaN: a difference of equals is, a product with such a float is, a sum of two is, so a dot with such a vector is, and none is below or above zero. Assumes nothing.
use Rattle.std.specs.Prelude.{◌≡◌, ℕ, zero, suc, ◌+◌, ◌-◌, ◌*◌, ◌<◌, Bool, true, false, cond, ◌&&◌, T, pos, nat_lt, refl, Float}
use Rattle.std.proofs.Common.{sym, ap, ◌∙◌, subst, mul-pos, zero-mul, mul-zero, arith, le-ltb, lit<}
use Rattle.std.specs.Bool.{beq}
use Rattle.std.specs.Float.{nan, inf, fin, binary32}
use Rattle.std.specs.Float.Ieee.{up, down, unlike, round, sum, add, sub, mul, lt, of_bits}
use Rattle.std.specs.Float.Ieee.Fits.{down_pos}
use Rattle.std.specs.Float.Ieee.Scale.{round_same}
use Rattle.math.specs.Floats.{◌⊕◌, ◌⊖◌, ◌⊗◌}
use Rattle.math.specs.Constants.{zero_f}
use Rattle.math.specs.Vec.{◌-v◌, dot}
use Rattle.math.specs.declared.vec.Vec3.{Vec3}

-- x is +0, -0 or a NaN
abbrev pub void : Float → Bool
void nan = true
void (inf s) = false
void (fin s zero e) = true
void (fin s (suc m) e) = false

-- each component of v is
pub record Void3 (v : Vec3) : Type 0 where
  pub x : T (void v.x)
  pub y : T (void v.y)
  pub z : T (void v.z)

-- ---- a fraction of nothing is rounded to a zero
round_nothing : (s : Bool) (c : ℕ) → 0 < c → round binary32 s 0 c ≡ fin s 0 (pos 0)
unfolding round
round_nothing s c h = round_same binary32 s 0 c 0 1 h (lit< tt) (omega arith)

round_void : (s : Bool) (a c : ℕ) → a ≡ 0 → 0 < c → T (void (round binary32 s a c))
round_void s a c z h = subst (λ (x : Float). T (void x)) (sym (ap (λ (n : ℕ). round binary32 s n c) z ∙ round_nothing s c h)) tt

cond_void : (b : Bool) (x y : Float) → T (void x) → T (void y) → T (void (cond b x y))
cond_void true x y p q = p
cond_void false x y p q = q

-- equal sizes, of unlike signs or both 0
sum_void : (s : Bool) (a : ℕ) (t : Bool) (b c : ℕ) → (beq s t ≡ true → a + b ≡ 0) → a ≡ b → 0 < c → T (void (sum binary32 s a t b c))
unfolding sum
sum_void s a t b c z e h = go (beq s t) z
  where
    go : (l : Bool) → (l ≡ true → a + b ≡ 0) → T (void (cond l (round binary32 s (a + b) c) (cond (nat_lt a b) (round binary32 t (b - a) c) (round binary32 (s && nat_lt b a) (a - b) c))))
    go true z = round_void s (a + b) c (z refl) h
    go false z = cond_void (nat_lt a b) _ _ (round_void t (b - a) c (omega arith) h) (round_void (s && nat_lt b a) (a - b) c (omega arith) h)

-- ---- the operators
pub difference_void : (x : Float) → T (void (x ⊖ x))
unfolding sub
difference_void nan = tt
difference_void (inf true) = tt
difference_void (inf false) = tt
difference_void (fin true m e) = sum_void true (m * up e * down e) false (m * up e * down e) (down e * down e) (λ l. absurd (subst T (sym l) tt)) refl (mul-pos (down_pos e) (down_pos e))
difference_void (fin false m e) = sum_void false (m * up e * down e) true (m * up e * down e) (down e * down e) (λ l. absurd (subst T (sym l) tt)) refl (mul-pos (down_pos e) (down_pos e))

pub sum_of_void : (x y : Float) → T (void x) → T (void y) → T (void (x ⊕ y))
unfolding add
sum_of_void nan y p q = tt
sum_of_void (inf s) y p q = absurd p
sum_of_void (fin s (suc m) e) y p q = absurd p
sum_of_void (fin s zero e) nan p q = tt
sum_of_void (fin s zero e) (inf t) p q = absurd q
sum_of_void (fin s zero e) (fin t (suc n) d) p q = absurd q
sum_of_void (fin s zero e) (fin t zero d) p q =
    sum_void s (0 * up e * down d) t (0 * up d * down e) (down e * down d) (λ l. nothing (up e) (down d) (up d) (down e)) (same (up e) (down d) (up d) (down e)) (mul-pos (down_pos e) (down_pos d))
  where
    nothing : (a b c d : ℕ) → 0 * a * b + 0 * c * d ≡ 0
    nothing a b c d = simp zero-mul

    same : (a b c d : ℕ) → 0 * a * b ≡ 0 * c * d
    same a b c d = simp zero-mul

pub times_void : (x y : Float) → T (void y) → T (void (x ⊗ y))
unfolding mul
times_void nan y p = tt
times_void (inf s) nan p = tt
times_void (inf s) (inf t) p = absurd p
times_void (inf s) (fin t zero d) p = tt
times_void (inf s) (fin t (suc n) d) p = absurd p
times_void (fin s m e) nan p = tt
times_void (fin s m e) (inf t) p = absurd p
times_void (fin s m e) (fin t (suc n) d) p = absurd p
times_void (fin s m e) (fin t zero d) p = round_void (unlike s t) (m * up e * (0 * up d)) (down e * down d) (rw (zero-mul, mul-zero)) (mul-pos (down_pos e) (down_pos d))

-- ---- vectors
pub vector_difference_void : (a : Vec3) → Void3 (a -v a)
unfolding ◌-v◌
vector_difference_void a = record { x = difference_void a.x; y = difference_void a.y; z = difference_void a.z }

pub dot_void : (a b : Vec3) → Void3 b → T (void (dot a b))
unfolding dot
dot_void a b h =
    sum_of_void _ _
    (sum_of_void _ _ (times_void a.x b.x h.x) (times_void a.y b.y h.y))
    (times_void a.z b.z h.z)

-- ---- neither below zero nor above it
pub void_not_below : (x : Float) → T (void x) → lt x zero_f ≡ false
unfolding lt of_bits
void_not_below nan p = refl
void_not_below (inf s) p = absurd p
void_not_below (fin s (suc m) e) p = absurd p
void_not_below (fin true zero e) p = le-ltb 0 (0 * up e * 1 + 0 * down e) (omega arith)
void_not_below (fin false zero e) p = le-ltb (0 * up e * 1) (0 * down e) (omega arith)

pub void_not_above : (x : Float) → T (void x) → lt zero_f x ≡ false
unfolding lt of_bits
void_not_above nan p = refl
void_not_above (inf s) p = absurd p
void_not_above (fin s (suc m) e) p = absurd p
void_not_above (fin true zero e) p = refl
void_not_above (fin false zero e) p = le-ltb (0 * down e) (0 * up e * 1) (omega arith)
