-- Which update each branch of the code makes. Assumes nothing.
use Rattle.std.specs.Prelude.{◌≡◌, refl, ℕ, ◌+◌, ◌*◌, ◌<◌, Bool, true, false, cond, not, ◌&&◌, List, ltb, eqb, Option, None, Some}
use Rattle.std.proofs.Common.{sym, ap, subst, ◌∙◌, true≢false, ltb-true}
use Rattle.std.proofs.lemmas.Bool.{not-true, not-false}
use Rattle.rules.specs.Inputs.{Settings, Collider, Body, ProposedManifold}
use Rattle.rules.specs.Limits.{colliders, bodies}
use Rattle.rule_laws.specs.NumberLaws.{every_at}
use Rattle.rules.specs.Records.{Cache, Pair}
use Rattle.rules.specs.Recycling.{recycles}
use Rattle.rules.specs.Sides.{Side, overlap, interact, side_of}
use Rattle.rules.specs.Surface.{or_else}
use Rattle.rules.specs.Update.{Updated, body_of, renewed, overlapping, updated_between}
use Rattle.words.specs.Words.{word_at, is_mark, if_marked}
use Rattle.layout.specs.Collider.{collider_size}
use Rattle.collider.specs.Range.{collider_fits, colliders_fit}
use Rattle.collider.specs.Recorded.{present_collider, collider_at}
use Rattle.contact_range.specs.RangeLaws.{first_of_lem, rest_of}
use Rattle.contact_records.specs.StateViews.{cached_of, cache_of}
use Rattle.contact_types.specs.declared.contact_manifold.ContactRecyclingCache.{ContactRecyclingCache}
use Rattle.contact_update.specs.After.{after_words}
use Rattle.contact_update.specs.Made.{skipped_update, disjoint_update, recycled_update, overlapped}
use Rattle.contact_update.specs.Updates.{BelowLimit, Updates, SkippedIs}
use Rattle.contact_update.specs.declared.record.Outcome.{Outcome}

-- the same update
pub updates_by : {u v : Updated} {before after : List ℕ} {r : Outcome} → v ≡ u → Updates u before after r → Updates v before after r
updates_by {u} {v} {before} {after} {r} e h = subst (λ (x : Updated). Updates x before after r) (sym e) h

-- ---- rule 4
-- whether the pair recycles, as the code asks
pub recycles_read : (s : Settings) (a b : Side) (p : Pair) (t : Bool) (o : Option Cache) {r v : Bool} → r ≡ recycles s t a b o → t ≡ p.flags.touching → o ≡ p.cache → r ≡ v
    → recycles s p.flags.touching a b p.cache ≡ v
recycles_read s a b p t o e f g h = sym (e ∙ (λ i. recycles s (f i) a b (g i))) ∙ h

module _ (s : Settings) (answer : Bool) (proposal : List ProposedManifold) (c1 c2 : Collider) (a b : Side) (p : Pair) where
  pub overlapped_full : recycles s p.flags.touching a b p.cache ≡ false → overlapped s answer proposal c1 c2 a b p ≡ renewed s answer proposal c1 c2 a b p
  unfolding overlapping
  overlapped_full e = rw e

  pub overlapped_none : p.cache ≡ None → overlapped s answer proposal c1 c2 a b p ≡ renewed s answer proposal c1 c2 a b p
  unfolding recycles
  overlapped_none e = overlapped_full (ap (recycles s p.flags.touching a b) e)

  pub overlapped_recycled : (k : Cache) → p.cache ≡ Some k → recycles s p.flags.touching a b p.cache ≡ true → overlapped s answer proposal c1 c2 a b p ≡ recycled_update a b k p
  unfolding overlapping
  overlapped_recycled k c e = (λ i. overlapping s answer proposal c1 c2 a b p (e i) (c i))

-- the code's answer is the cache, where the pair recycles
none_kept : {A : Type 0} (k : A) (x : Bool) → cond x (Some k) None ≡ None → x ≡ false
none_kept k true e = cc
none_kept k false e = refl

some_kept : {A : Type 0} {o : Option A} {k : A} (x : Bool) → cond x o None ≡ Some k → (x ≡ true) × (o ≡ Some k)
some_kept true e = (refl, e)
some_kept false e = cc

module _ (s : Settings) (answer : Bool) (proposal : List ProposedManifold) (c1 c2 : Collider) (a b : Side) (p : Pair) (touching : Bool) (cache : Option ContactRecyclingCache)
    {r : Option ContactRecyclingCache} (asked : r ≡ cond (recycles s touching a b (cache_of cache)) cache None) (same_touching : touching ≡ p.flags.touching) (same_cache : cache_of cache ≡ p.cache) where
  none_read : (o : Option ContactRecyclingCache) → cond (recycles s touching a b (cache_of o)) o None ≡ None → recycles s touching a b (cache_of o) ≡ false
  unfolding recycles
  none_read None e = refl
  none_read (Some k) e = none_kept k _ e

  pub answered_full : r ≡ None → overlapped s answer proposal c1 c2 a b p ≡ renewed s answer proposal c1 c2 a b p
  answered_full e =
      overlapped_full s answer proposal c1 c2 a b p (recycles_read s a b p touching (cache_of cache) refl same_touching same_cache (none_read cache (sym asked ∙ e)))

  pub answered_recycled : (k : ContactRecyclingCache) → r ≡ Some k → overlapped s answer proposal c1 c2 a b p ≡ recycled_update a b (cached_of k) p
  answered_recycled k e =
      let t = some_kept (recycles s touching a b (cache_of cache)) (sym asked ∙ e) in
      overlapped_recycled s answer proposal c1 c2 a b p (cached_of k) (sym same_cache ∙ ap cache_of t.1) (recycles_read s a b p touching (cache_of cache) refl same_touching same_cache t.0)

-- ---- rules 1 and 2
pub skipped_updates : (p : Pair) (w : List ℕ) (r : Outcome) → SkippedIs r → Updates (skipped_update p) w w r
unfolding after_words
skipped_updates p w r h = record { words = refl; bit = h.bit; recycled = h.recycled; distance = h.distance }

module _ (s : Settings) (body : ℕ → Option Body) (answer : Bool) (proposal : List ProposedManifold) (p : Pair) where
  pub first_absent : (o q : Option Collider) → o ≡ None → updated_between s body answer proposal p o q ≡ skipped_update p
  unfolding updated_between
  first_absent o q e = rw e

  pub second_absent : (c1 : Collider) (o q : Option Collider) → o ≡ Some c1 → q ≡ None → updated_between s body answer proposal p o q ≡ skipped_update p
  unfolding updated_between
  second_absent c1 o q e f = rw (e, f)

  module _ (c1 c2 : Collider) where
    pub between_disjoint : overlap c1 c2 p.speculative && interact c1 c2 ≡ false → updated_between s body answer proposal p (Some c1) (Some c2) ≡ disjoint_update p
    unfolding updated_between
    between_disjoint e = rw e

    pub between_overlapping : (a b : Side) → overlap c1 c2 p.speculative && interact c1 c2 ≡ true → a ≡ side_of c1 (body_of body c1.body) → b ≡ side_of c2 (body_of body c2.body)
        → updated_between s body answer proposal p (Some c1) (Some c2) ≡ overlapped s answer proposal c1 c2 a b p
    unfolding updated_between
    between_overlapping a b e f g = rw e (λ i. overlapped s answer proposal c1 c2 (sym f i) (sym g i) p)

    pub both_present : (o q : Option Collider) → o ≡ Some c1 → q ≡ Some c2 → updated_between s body answer proposal p o q ≡ updated_between s body answer proposal p (Some c1) (Some c2)
    both_present o q e f = λ i. updated_between s body answer proposal p (e i) (f i)

-- the two tests of rule 2
pub no_overlap : {b o : Bool} (i : Bool) → b ≡ o → not b ≡ true → o && i ≡ false
no_overlap {b} i e n = ap (λ (x : Bool). x && i) (sym e ∙ not-true b n)

pub no_interaction : {b c i : Bool} (o : Bool) → b ≡ o → not b ≡ false → c ≡ i → not c ≡ true → o && i ≡ false
no_interaction {b} {c} o e n f m = (λ j. (sym e ∙ not-false b n) j && (sym f ∙ not-true c m) j)

pub both_hold : {b c o i : Bool} → b ≡ o → not b ≡ false → c ≡ i → not c ≡ false → o && i ≡ true
both_hold {b} {c} e n f m = (λ j. (sym e ∙ not-false b n) j && (sym f ∙ not-false c m) j)

-- ---- a collider's body has a number below the limit
abbrev body_in : Option Collider → Option ℕ
body_in None = None
body_in (Some c) = c.body

abbrev given : Option ℕ → Bool
given None = false
given (Some n) = true

below_cases : (c : Collider) (i p j q rest : Bool) (x : ℕ) → c.body ≡ cond q (Some x) None → i && cond p ((j && cond q (ltb x bodies) true) && rest) true ≡ true
    → (m : ℕ) → body_in (cond p (Some c) None) ≡ Some m → m < bodies
below_cases c i false j q rest x e f m g = absurd (true≢false (sym (ap given g)))
below_cases c i true j false rest x e f m g = absurd (true≢false (sym (ap given (sym e ∙ g))))
below_cases c i true j true rest x e f m g =
    let t = rest_of j (ltb x bodies) (first_of_lem (j && ltb x bodies) rest (rest_of i ((j && ltb x bodies) && rest) f)) in
    let same : x ≡ m = ap (λ (o : Option ℕ). or_else o 0) (sym e ∙ g) in
    subst (λ (y : ℕ). y < bodies) same (ltb-true x bodies t)

pub body_below : (xs : List ℕ) (n : ℕ) (c : Collider) → colliders_fit xs ≡ true → n < colliders → collider_at xs n ≡ Some c → BelowLimit c.body
unfolding collider_at present_collider if_marked colliders_fit collider_fits
body_below xs n c f l e =
    let at = n * collider_size in
    let fits = every_at (λ k. collider_fits xs (k * collider_size)) colliders n f l in
    record {
      below = λ m g. below_cases (present_collider xs at) (is_mark (word_at xs at)) (eqb (word_at xs at) 1) (is_mark (word_at xs (at + 1))) (eqb (word_at xs (at + 1)) 1) _ (word_at xs (at + 1 + 1)) refl fits m (ap body_in e ∙ g);
    }
