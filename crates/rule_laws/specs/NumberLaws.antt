-- Laws of the searches through the numbers below n. Assumes nothing.
use Prim.Native.Nat.{ℕ, zero, suc, ◌+◌, ◌≤◌, ◌<◌}
use Rattle.std.proofs.Common.{not-suc-le-zero, eq-or-lt_of_le, sym, ◌∙◌, ⊎_elim}
use Rattle.std.proofs.Math.Numerals.{add-one}
use native.Mathlib.Omega.{arith}
use Rattle.std.proofs.Math.Path.{◌≡◌, refl, ap, subst}
use Rattle.std.specs.Prelude.{◌⊎◌, Bool, true, false, ◌&&◌, ◌||◌, Float, Option, None, Some}
use Rattle.std.proofs.Math.Logic.{inl, inr}
use Rattle.std.proofs.Math.Bool.{cond}
use Rattle.std.proofs.Math.Dec.{T}
use Rattle.std.specs.Float.Ieee.{is_nan}
use Rattle.math.specs.Laws.{lt_itself, lt_through, lt_either, lt_numbers}
use Rattle.rules.specs.Numbers.{else, first, Leading, Better, greater, less, overtaken, leader, every, any}

-- a search found a number
abbrev pub Found : Option ℕ → Type 0
Found o = (i : ℕ) × (o ≡ Some i)

first_part : (a b : Bool) → a && b ≡ true → a ≡ true
first_part true b e = refl
first_part false b e = e

second_part : (a b : Bool) → a && b ≡ true → b ≡ true
second_part true b e = e
second_part false b e = absurd (subst T (sym e) tt)

not_second : (a b : Bool) → b ≡ false → a && b ≡ false
not_second true b e = e
not_second false b e = refl

-- a test is false where it can't be true
refuted : (b : Bool) → (b ≡ true → ⊥) → b ≡ false
refuted true f = absurd (f refl)
refuted false f = refl

clash : {b : Bool} → b ≡ true → b ≡ false → ⊥
clash p q = subst T (sym p ∙ q) tt

-- ---- the first that passes
module _ (test : ℕ → Bool) where
  -- one turn of a search that has found nothing
  pub first_next : (k : ℕ) → first test k ≡ None → test k ≡ false → first test (k + 1) ≡ None
  unfolding first
  first_next k e f = rw add-one (ap (λ (o : Option ℕ). else o (test k) k) e ∙ ap (λ (b : Bool). else None b k) f)

  pub first_here : (k : ℕ) → first test k ≡ None → test k ≡ true → first test (suc k) ≡ Some k
  unfolding first
  first_here k e f = ap (λ (o : Option ℕ). else o (test k) k) e ∙ ap (λ (b : Bool). else None b k) f

  -- what is found stays, so a search through n numbers that passes over k others stops at k
  stays : (i k n : ℕ) → first test k ≡ Some i → k ≤ n → first test n ≡ Some i
  unfolding first
  stays i k zero e h = subst (λ (m : ℕ). first test m ≡ Some i) (let z : k ≡ 0 = omega arith in z) e
  stays i k (suc m) e h =
      elim (eq-or-lt_of_le h) [
        | inl q ↦ subst (λ (m : ℕ). first test m ≡ Some i) q e
        | inr l ↦ ap (λ (o : Option ℕ). else o (test m) m) (stays i k m e (omega arith))
      ]

  pub first_found : (k n : ℕ) → first test k ≡ None → test k ≡ true → k < n → first test n ≡ Some k
  first_found k n e f h = stays k (suc k) n (first_here k e f) h

  -- what is found passes
  passed : (k : ℕ) (b : Bool) (o : Option ℕ) (i : ℕ) → test k ≡ b → (o ≡ Some i → test i ≡ true) → else o b k ≡ Some i → test i ≡ true
  passed k b (Some j) i e f h = f h
  passed k true None i e f h = subst (λ (m : ℕ). test m ≡ true) (let z : ◌≡◌ {A = ℕ} k i = cc in z) e
  passed k false None i e f h = absurd (let z : ◌≡◌ {A = ℕ} 0 1 = cc in omega arith)

  pub first_passes : (n i : ℕ) → first test n ≡ Some i → test i ≡ true
  unfolding first
  first_passes zero i h = absurd (let z : ◌≡◌ {A = ℕ} 0 1 = cc in omega arith)
  first_passes (suc k) i h = passed k (test k) (first test k) i refl (first_passes k i) h

-- two tests that agree below n find the same
pub first_same : (f g : ℕ → Bool) (n : ℕ) → ((k : ℕ) → k < n → f k ≡ g k) → first f n ≡ first g n
unfolding first
first_same f g zero h = refl
first_same f g (suc k) h =
    ap (λ (o : Option ℕ). else o (f k) k) (first_same f g k (λ i l. h i (omega arith))) ∙ ap (λ (b : Bool). else (first g k) b k) (h k (omega arith))

-- ---- the one that leads
module _ (better : Better) (value : ℕ → Float) (among : ℕ → Bool) (start : Float) where
  -- one turn of the search, where k leads and where it does not
  pub leader_takes : (k : ℕ) {l : Leading} → l ≡ leader better value among start k → among k && better (value k) l.value ≡ true → leader better value among start (k + 1) ≡ record { value = value k; who = Some k }
  unfolding leader
  leader_takes k {l} e f =
      rw add-one
      (ap (overtaken better value among k) (sym e) ∙ ap (λ (b : Bool). cond b (record { value = value k; who = Some k }) l) f)

  pub leader_keeps : (k : ℕ) {l : Leading} → l ≡ leader better value among start k → among k && better (value k) l.value ≡ false → leader better value among start (k + 1) ≡ l
  unfolding leader
  leader_keeps k {l} e f =
      rw add-one
      (ap (overtaken better value among k) (sym e) ∙ ap (λ (b : Bool). cond b (record { value = value k; who = Some k }) l) f)

  -- ---- who leads takes part, and is below n
  led : (k : ℕ) (b : Bool) (l : Leading) (i : ℕ) → (among k && better (value k) l.value ≡ b) → (cond b (record { value = value k; who = Some k }) l).who ≡ Some i → (i ≡ k) ⊎ (l.who ≡ Some i)
  led k true l i e h = inl (sym (let z : ◌≡◌ {A = ℕ} k i = cc in z))
  led k false l i e h = inr h

  pub leader_below : (n i : ℕ) → (leader better value among start n).who ≡ Some i → i < n
  unfolding leader
  leader_below zero i h = absurd (let z : ◌≡◌ {A = ℕ} 0 1 = cc in omega arith)
  leader_below (suc k) i h =
      elim (led k (among k && better (value k) (leader better value among start k).value) (leader better value among start k) i refl h) [
        | inl e ↦ omega arith
        | inr r ↦ let z = leader_below k i r in omega arith
      ]

  part : (k : ℕ) (b : Bool) (l : Leading) (i : ℕ) → (among k && better (value k) l.value ≡ b) → (l.who ≡ Some i → among i ≡ true) → (cond b (record { value = value k; who = Some k }) l).who ≡ Some i → among i ≡ true
  part k true l i e f h = subst (λ (m : ℕ). among m ≡ true) (let z : ◌≡◌ {A = ℕ} k i = cc in z) (first_part (among k) (better (value k) l.value) e)
  part k false l i e f h = f h

  pub leader_among : (n i : ℕ) → (leader better value among start n).who ≡ Some i → among i ≡ true
  unfolding leader
  leader_among zero i h = absurd (let z : ◌≡◌ {A = ℕ} 0 1 = cc in omega arith)
  leader_among (suc k) i h =
      part k (among k && better (value k) (leader better value among start k).value) (leader better value among start k) i refl (leader_among k i) h

  -- ---- someone leads, where one takes part and all values are better than the start
  -- while nobody leads the value is the start
  abbrev Sound : Leading → Type 0
  Sound l = Found l.who ⊎ ((l.who ≡ None) × (l.value ≡ start))

  sound_step : (k : ℕ) (b : Bool) (l : Leading) → Sound l → Sound (cond b (record { value = value k; who = Some k }) l)
  sound_step k true l s = inl (k, refl)
  sound_step k false l s = s

  sound : (n : ℕ) → Sound (leader better value among start n)
  unfolding leader
  sound zero = inr (refl, refl)
  sound (suc k) = sound_step k (among k && better (value k) (leader better value among start k).value) (leader better value among start k) (sound k)

  found_step : (k : ℕ) (b : Bool) (l : Leading) → Found l.who → Found (cond b (record { value = value k; who = Some k }) l).who
  found_step k true l f = (k, refl)
  found_step k false l f = f

  joins : (k : ℕ) (b : Bool) (l : Leading) → Sound l → among k && better (value k) l.value ≡ b → among k ≡ true → better (value k) start ≡ true → Found (cond b (record { value = value k; who = Some k }) l).who
  joins k true l s e a h = (k, refl)
  joins k false l (inl f) e a h = f
  joins k false l (inr s) e a h =
      absurd (subst T (ap (λ (x : Bool). x && true) (sym a) ∙ ap (λ (x : Bool). among k && x) (sym h ∙ ap (better (value k)) (sym s.1)) ∙ e) tt)

  pub leader_exists : (n k : ℕ) → k < n → among k ≡ true → ((i : ℕ) → i < n → better (value i) start ≡ true) → Found (leader better value among start n).who
  unfolding leader
  leader_exists zero k h a f = absurd (not-suc-le-zero h)
  leader_exists (suc m) k h a f =
      let l = leader better value among start m in
      let b = among m && better (value m) l.value in
      elim (eq-or-lt_of_le (let z : k ≤ m = omega arith in z)) [
        | inl e ↦ joins m b l (sound m) refl (subst (λ (i : ℕ). among i ≡ true) e a) (f m (omega arith))
        | inr s ↦ found_step m b l (leader_exists m k s a (λ i g. f i (omega arith)))
      ]

  -- who leads keeps the lead where no later value is better
  pub leader_stands : (k n : ℕ) {l : Leading} → leader better value among start k ≡ l → ((i : ℕ) → k ≤ i → better (value i) l.value ≡ false) → k ≤ n → leader better value among start n ≡ l
  unfolding leader
  leader_stands k zero {l} e f h = subst (λ (m : ℕ). leader better value among start m ≡ l) (let z : k ≡ 0 = omega arith in z) e
  leader_stands k (suc m) {l} e f h =
      elim (eq-or-lt_of_le h) [
        | inl q ↦ subst (λ (m : ℕ). leader better value among start m ≡ l) q e
        | inr s ↦
            ap (overtaken better value among m) (leader_stands k m e f (omega arith))
            ∙ ap (λ (b : Bool). cond b (record { value = value m; who = Some m }) l) (not_second (among m) (better (value m) l.value) (f m (omega arith)))
      ]

-- ---- who leads is the earliest of the best
-- what the search needs of `better`: an order of the numbers, in which equals may stand side by side, and a NaN is not better than anything
pub record Ranks (better : Better) : Type 0 where
  pub never_itself : (a : Float) → better a a ≡ false
  pub through : (a b c : Float) → better a b ≡ true → better b c ≡ true → better a c ≡ true
  pub either : (a b c : Float) → is_nan b ≡ false → better a c ≡ true → (better a b ≡ true) ⊎ (better b c ≡ true)
  pub number : (a b : Float) → better a b ≡ true → is_nan a ≡ false

pub less_ranks : Ranks less
less_ranks = record { never_itself = lt_itself; through = lt_through; either = lt_either; number = λ a b h. (lt_numbers a b h).0 }

pub greater_ranks : Ranks greater
greater_ranks =
    record {
      never_itself = lt_itself;
      through = λ a b c h k. lt_through c b a k h;
      either = λ a b c n h. ⊎_elim inr inl (lt_either c b a n h);
      number = λ a b h. (lt_numbers b a h).1;
    }

-- i is the earliest of the best among the numbers below n that take part. A NaN never leads, and what leads is better than every earlier value but a NaN.
pub record Leads (better : Better) (value : ℕ → Float) (among : ℕ → Bool) (start : Float) (n i : ℕ) : Type 0 where
  pub below : i < n
  pub takes_part : among i ≡ true
  pub number : is_nan (value i) ≡ false
  pub ahead : better (value i) start ≡ true
  pub best : (j : ℕ) → j < n → among j ≡ true → better (value j) (value i) ≡ false
  pub earliest : (j : ℕ) → j < i → among j ≡ true → (better (value i) (value j) ≡ true) ⊎ (is_nan (value j) ≡ true)

module _ (better : Better) (ranks : Ranks better) (value : ℕ → Float) (among : ℕ → Bool) (start : Float) where
  abbrev at : ℕ → Leading
  at n = leader better value among start n

  -- nobody who took part is better than the value that leads
  none_better : (k : ℕ) (b : Bool) (l : Leading) → among k && better (value k) l.value ≡ b → ((j : ℕ) → j < k → among j ≡ true → better (value j) l.value ≡ false)
      → (j : ℕ) → j < suc k → among j ≡ true → better (value j) (cond b (record { value = value k; who = Some k }) l).value ≡ false
  none_better k true l e f j h a =
      elim (eq-or-lt_of_le (let z : j ≤ k = omega arith in z)) [
        | inl p ↦ subst (λ (i : ℕ). better (value i) (value k) ≡ false) (sym p) (ranks.never_itself (value k))
        | inr s ↦
            refuted (better (value j) (value k))
            (λ t. clash (ranks.through (value j) (value k) l.value t (second_part (among k) (better (value k) l.value) e)) (f j s a))
      ]
  none_better k false l e f j h a =
      elim (eq-or-lt_of_le (let z : j ≤ k = omega arith in z)) [
        | inl p ↦
            subst (λ (i : ℕ). better (value i) l.value ≡ false) (sym p)
            (ap (λ (b : Bool). b && better (value k) l.value) (sym (subst (λ (i : ℕ). among i ≡ true) p a)) ∙ e)
        | inr s ↦ f j s a
      ]

  leader_none_better : (n j : ℕ) → j < n → among j ≡ true → better (value j) (at n).value ≡ false
  unfolding leader
  leader_none_better zero j h a = absurd (not-suc-le-zero h)
  leader_none_better (suc k) j h a = none_better k (among k && better (value k) (at k).value) (at k) refl (leader_none_better k) j h a

  -- the value that leads is the leader's, and better than the start and than every earlier number
  abbrev Ahead : Leading → Type 0
  Ahead l = (i : ℕ) → l.who ≡ Some i → (l.value ≡ value i) × (better (value i) start ≡ true) × ((j : ℕ) → j < i → among j ≡ true → (better (value i) (value j) ≡ true) ⊎ (is_nan (value j) ≡ true))

  over_start : (v : Float) (l : Leading) → Sound better value among start l → Ahead l → better v l.value ≡ true → better v start ≡ true
  over_start v l (inl f) a h = let g = a f.0 f.1 in ranks.through v (value f.0) start (ap (better v) (sym g.0) ∙ h) g.1
  over_start v l (inr s) a h = ap (better v) (sym s.1) ∙ h

  over_earlier : (v w x : Float) (b : Bool) → is_nan x ≡ b → better v w ≡ true → better x w ≡ false → (better v x ≡ true) ⊎ (is_nan x ≡ true)
  over_earlier v w x true e h f = inr e
  over_earlier v w x false e h f = ⊎_elim inl (λ t. absurd (clash t f)) (ranks.either v x w e h)

  ahead_step : (k : ℕ) (b : Bool) (l : Leading) → among k && better (value k) l.value ≡ b → Sound better value among start l → ((j : ℕ) → j < k → among j ≡ true → better (value j) l.value ≡ false) → Ahead l
      → Ahead (cond b (record { value = value k; who = Some k }) l)
  ahead_step k true l e s f a i h =
      let p : ◌≡◌ {A = ℕ} k i = cc in
      let t = second_part (among k) (better (value k) l.value) e in
      subst (λ (i : ℕ). (value k ≡ value i) × (better (value i) start ≡ true) × ((j : ℕ) → j < i → among j ≡ true → (better (value i) (value j) ≡ true) ⊎ (is_nan (value j) ≡ true))) p
      (refl, over_start (value k) l s a t, λ j g c. over_earlier (value k) l.value (value j) (is_nan (value j)) refl t (f j g c))
  ahead_step k false l e s f a i h = a i h

  ahead : (n : ℕ) → Ahead (at n)
  unfolding leader
  ahead zero i h = absurd (let z : ◌≡◌ {A = ℕ} 0 1 = cc in omega arith)
  ahead (suc k) i h = ahead_step k (among k && better (value k) (at k).value) (at k) refl (sound better value among start k) (leader_none_better k) (ahead k) i h

  pub leader_best : (n i : ℕ) → (leader better value among start n).who ≡ Some i → Leads better value among start n i
  leader_best n i h =
      let a = ahead n i h in
      record {
        below = leader_below better value among start n i h;
        takes_part = leader_among better value among start n i h;
        number = ranks.number (value i) start a.1;
        ahead = a.1;
        best = λ j g c. ap (better (value j)) (sym a.0) ∙ leader_none_better n j g c;
        earliest = a.2;
      }

  -- where nobody leads, nobody who takes part is better than the start
  pub leader_none : (n : ℕ) → (leader better value among start n).who ≡ None → (j : ℕ) → j < n → among j ≡ true → better (value j) start ≡ false
  leader_none n h j g c =
      elim (sound better value among start n) [
        | inl f ↦ absurd (nobody (sym h ∙ f.1))
        | inr s ↦ ap (better (value j)) (sym s.1) ∙ leader_none_better n j g c
      ]
    where
      nobody : {i : ℕ} → None ≡ Some i → ⊥
      nobody {i} e = absurd (let z : ◌≡◌ {A = ℕ} 0 1 = cc in omega arith)

  -- there is only one such number, and it leads
  not_before : (n i k : ℕ) → Leads better value among start n i → Leads better value among start n k → i < k → ⊥
  not_before n i k p q l =
      ⊎_elim
      (λ t. clash t (p.best k q.below q.takes_part))
      (λ t. clash t p.number)
      (q.earliest i l p.takes_part)

  pub leads_once : (n i k : ℕ) → Leads better value among start n i → Leads better value among start n k → i ≡ k
  leads_once n i k p q = let a = not_before n i k p q in let b = not_before n k i q p in omega arith

  pub leader_only : (n i : ℕ) → Leads better value among start n i → (leader better value among start n).who ≡ Some i
  leader_only n i p = go (leader better value among start n).who refl
    where
      go : (o : Option ℕ) → (leader better value among start n).who ≡ o → o ≡ Some i
      go None e = absurd (clash p.ahead (leader_none n e i p.below p.takes_part))
      go (Some k) e = ap Some (leads_once n k i (leader_best n k e) p)

-- ---- values and parts that agree below n give the same leader
pub leader_same : (better : Better) (v w : ℕ → Float) (a b : ℕ → Bool) (start : Float) (n : ℕ) → ((k : ℕ) → k < n → v k ≡ w k) → ((k : ℕ) → k < n → a k ≡ b k) → leader better v a start n ≡ leader better w b start n
unfolding leader
leader_same better v w a b start zero h g = refl
leader_same better v w a b start (suc k) h g =
    let l = leader better w b start k in
    ap (overtaken better v a k) (leader_same better v w a b start k (λ i z. h i (omega arith)) (λ i z. g i (omega arith)))
    ∙ ap (λ (x : Float). cond (a k && better x l.value) (record { value = x; who = Some k }) l) (h k (omega arith))
    ∙ ap (λ (x : Bool). cond (x && better (w k) l.value) (record { value = w k; who = Some k }) l) (g k (omega arith))

-- ---- every number, and some number
both : (a b : Bool) → a ≡ true → b ≡ true → a && b ≡ true
both a b p q = rw (p, q)

module _ (test : ℕ → Bool) where
  -- a turn of a loop that has seen only numbers that pass
  pub every_next : (k : ℕ) → every test k ≡ true → test k ≡ true → every test (k + 1) ≡ true
  unfolding every
  every_next k p q = rw add-one (both (every test k) (test k) p q)

  pub every_at : (n k : ℕ) → every test n ≡ true → k < n → test k ≡ true
  unfolding every
  every_at zero k e h = absurd (not-suc-le-zero h)
  every_at (suc m) k e h =
      elim (eq-or-lt_of_le (let z : k ≤ m = omega arith in z)) [
        | inl p ↦ subst (λ (i : ℕ). test i ≡ true) (sym p) (second_part (every test m) (test m) e)
        | inr l ↦ every_at m k (first_part (every test m) (test m) e) l
      ]

  pub every_all : (n : ℕ) → ((k : ℕ) → k < n → test k ≡ true) → every test n ≡ true
  unfolding every
  every_all zero h = refl
  every_all (suc m) h = both (every test m) (test m) (every_all m (λ k l. h k (omega arith))) (h m (omega arith))

  -- one that fails
  pub every_fails : (n k : ℕ) → k < n → test k ≡ false → every test n ≡ false
  unfolding every
  every_fails zero k h e = absurd (not-suc-le-zero h)
  every_fails (suc m) k h e =
      elim (eq-or-lt_of_le (let z : k ≤ m = omega arith in z)) [
        | inl p ↦ not_second (every test m) (test m) (subst (λ (i : ℕ). test i ≡ false) p e)
        | inr l ↦ ap (λ (b : Bool). b && test m) (every_fails m k l e)
      ]

  either : (a b : Bool) → a || b ≡ true → (a ≡ true) ⊎ (b ≡ true)
  either true b e = inl refl
  either false b e = inr e

  or_second : (a b : Bool) → b ≡ true → a || b ≡ true
  or_second true b e = refl
  or_second false b e = e

  pub any_next : (k : ℕ) → any test k ≡ false → test k ≡ false → any test (k + 1) ≡ false
  unfolding any
  any_next k p q = rw (add-one, p, q)

  pub any_at : (n k : ℕ) → k < n → test k ≡ true → any test n ≡ true
  unfolding any
  any_at zero k h e = absurd (not-suc-le-zero h)
  any_at (suc m) k h e =
      elim (eq-or-lt_of_le (let z : k ≤ m = omega arith in z)) [
        | inl p ↦ or_second (any test m) (test m) (subst (λ (i : ℕ). test i ≡ true) p e)
        | inr l ↦ ap (λ (b : Bool). b || test m) (any_at m k l e)
      ]

  pub any_none : (n : ℕ) → ((k : ℕ) → k < n → test k ≡ false) → any test n ≡ false
  unfolding any
  any_none zero h = refl
  any_none (suc m) h = rw (any_none m (λ k l. h k (omega arith)), h m (omega arith))

  pub any_found : (n : ℕ) → any test n ≡ true → (k : ℕ) × (k < n) × (test k ≡ true)
  unfolding any
  any_found zero e = absurd (subst T (sym e) tt)
  any_found (suc m) e =
      elim (either (any test m) (test m) e) [
        | inl p ↦ let f = any_found m p in (f.0, omega (arith, f.1), f.2)
        | inr p ↦ (m, omega arith, p)
      ]

-- two tests at once
pub every_both : (f g : ℕ → Bool) (n : ℕ) → every (λ k. f k && g k) n ≡ every f n && every g n
unfolding every
every_both f g zero = refl
every_both f g (suc m) = ap (λ (b : Bool). b && (f m && g m)) (every_both f g m) ∙ exchanged (every f m) (every g m) (f m) (g m)
  where
    exchanged : (a b c d : Bool) → (a && b) && (c && d) ≡ (a && c) && (b && d)
    exchanged true true c d = refl
    exchanged true false true d = refl
    exchanged true false false d = refl
    exchanged false b c d = refl

-- tests that agree below n
pub every_same : (f g : ℕ → Bool) (n : ℕ) → ((k : ℕ) → k < n → f k ≡ g k) → every f n ≡ every g n
unfolding every
every_same f g zero h = refl
every_same f g (suc m) h =
    ap (λ (b : Bool). b && f m) (every_same f g m (λ k l. h k (omega arith))) ∙ ap (λ (b : Bool). every g m && b) (h m (omega arith))

pub any_same : (f g : ℕ → Bool) (n : ℕ) → ((k : ℕ) → k < n → f k ≡ g k) → any f n ≡ any g n
unfolding any
any_same f g zero h = refl
any_same f g (suc m) h =
    ap (λ (b : Bool). b || f m) (any_same f g m (λ k l. h k (omega arith))) ∙ ap (λ (b : Bool). any g m || b) (h m (omega arith))
