-- What the range conditions say, for callers, with every definition shut. Assumes nothing.
use Rattle.std.specs.Prelude.{◌≡◌, ℕ, ◌+◌, ◌*◌, ◌≤◌, ◌<◌, Bool, cond, ◌&&◌, ◌||◌, List, ◌⊎◌, T, eqb, ltb, leb, length}
use Rattle.std.proofs.Math.Path.{refl}
use Rattle.std.proofs.Common.{sym, ap, subst, ◌∙◌, arith, true≢false}
use Rattle.std.proofs.Math.Bool.{true, false, not}
use Rattle.std.proofs.Math.Logic.{inl, inr}
use borrow.Author.Tests.{ltb-true, leb-true, eqb-true, eqb-false, lt-ltb, eq-eqb, not-true}
use Rattle.rules.specs.Limits.{stored_points, pair_manifolds, colliders, bodies, most_contacts}
use Rattle.rules.specs.Numbers.{every}
use Rattle.rule_laws.specs.NumberLaws.{every_at, any_at, any_found}
use Rattle.words.specs.Words.{word_at}
use Rattle.layout.specs.Contact.{contact_body1, contact_body2, contact_cache, contact_edge_flags, contact_manifolds, marks_size}
use Rattle.layout.specs.Graph.{graph_length}
use Rattle.layout.specs.Manifold.{manifold_size}
use Rattle.contact_range.specs.Recorded.{capacity_of, given_of, listed_count, free_count, listed_at, free_at, contact_at}
use Rattle.contact_range.specs.Range.{right_length, optional_fits, names_fit, marks_fit, manifolds_fit, contact_fits, counts_fit, listed_given, names_back, contacts_fit, free_given, free_once, stands, is_free, free_apart, given_known, same_pair, pairs_once, InRange, in_range}
use Rattle.contact_range.specs.Conditions.{RightLength, Counts, index_at}

-- ---- tests
pub holds : (b : Bool) → T b → b ≡ true
holds true t = refl
holds false t = absurd t

pub shown : {b : Bool} → b ≡ true → T b
shown e = subst T (sym e) tt

pub first_of_lem : (a b : Bool) → a && b ≡ true → a ≡ true
first_of_lem true b e = refl
first_of_lem false b e = e

pub rest_of : (a b : Bool) → a && b ≡ true → b ≡ true
rest_of true b e = e
rest_of false b e = absurd (true≢false (sym e))

-- ---- refusal 1

pub right_length_lem : {g : List ℕ} → right_length g ≡ true → RightLength g
unfolding right_length
right_length_lem {g} e =
    let a = ltb 0 (capacity_of g) in
    let b = leb (capacity_of g) most_contacts in
    let c = eqb (length g) (graph_length (capacity_of g)) in
    record {
      least = ltb-true 0 (capacity_of g) (first_of_lem a (b && c) e);
      most = leb-true (capacity_of g) most_contacts (first_of_lem b c (rest_of a (b && c) e));
      size = eqb-true (length g) (graph_length (capacity_of g)) (rest_of b c (rest_of a (b && c) e));
    }

-- ---- refusal 2, as one test and as a record
pub in_range_lem : {g : List ℕ} → T (in_range g) → InRange g
unfolding in_range
in_range_lem {g} t =
    let pairs = pairs_once g in
    let known = given_known g && pairs in
    let apart = free_apart g && known in
    let once = free_once g && apart in
    let freed = free_given g && once in
    let contacts = contacts_fit g && freed in
    let back = names_back g && contacts in
    let given = listed_given g && back in
    let e1 = holds (counts_fit g && given) t in
    let e2 = rest_of (counts_fit g) given e1 in
    let e3 = rest_of (listed_given g) back e2 in
    let e4 = rest_of (names_back g) contacts e3 in
    let e5 = rest_of (contacts_fit g) freed e4 in
    let e6 = rest_of (free_given g) once e5 in
    let e7 = rest_of (free_once g) apart e6 in
    let e8 = rest_of (free_apart g) known e7 in
    record {
      counts = shown (first_of_lem (counts_fit g) given e1);
      given = shown (first_of_lem (listed_given g) back e2);
      back = shown (first_of_lem (names_back g) contacts e3);
      contacts = shown (first_of_lem (contacts_fit g) freed e4);
      freed = shown (first_of_lem (free_given g) once e5);
      once = shown (first_of_lem (free_once g) apart e6);
      apart = shown (first_of_lem (free_apart g) known e7);
      known = shown (first_of_lem (given_known g) pairs e8);
      pairs = shown (rest_of (given_known g) pairs e8);
    }

pub in_range_test : {g : List ℕ} → InRange g → T (in_range g)
unfolding in_range
in_range_test {g} r =
    rw (
      holds (counts_fit g) r.counts,
      holds (listed_given g) r.given,
      holds (names_back g) r.back,
      holds (contacts_fit g) r.contacts,
      holds (free_given g) r.freed,
      holds (free_once g) r.once,
      holds (free_apart g) r.apart,
      holds (given_known g) r.known,
    ) r.pairs

-- ---- counts

pub counts_fit_lem : {g : List ℕ} → counts_fit g ≡ true → Counts g
unfolding counts_fit
counts_fit_lem {g} e =
    let a = leb (given_of g) (capacity_of g) in
    let b = leb (listed_count g) (capacity_of g) in
    let c = leb (free_count g) (capacity_of g) in
    record {
      given = leb-true (given_of g) (capacity_of g) (first_of_lem a (b && c) e);
      listed = leb-true (listed_count g) (capacity_of g) (first_of_lem b c (rest_of a (b && c) e));
      freed = leb-true (free_count g) (capacity_of g) (rest_of b c (rest_of a (b && c) e));
    }

pub counts : {g : List ℕ} → InRange g → Counts g
counts {g} r = counts_fit_lem (holds (counts_fit g) r.counts)

-- ---- the list, from single conditions
pub given_at : (g : List ℕ) (p : ℕ) → listed_given g ≡ true → p < listed_count g → listed_at g p < given_of g
unfolding listed_given
given_at g p e h = ltb-true (listed_at g p) (given_of g) (every_at (λ q. ltb (listed_at g q) (given_of g)) (listed_count g) p e h)

pub back_at : (g : List ℕ) (p : ℕ) → names_back g ≡ true → p < listed_count g → index_at g (listed_at g p) ≡ p
unfolding names_back
back_at g p e h = eqb-true (index_at g (listed_at g p)) p (every_at (λ q. eqb (index_at g (listed_at g q)) q) (listed_count g) p e h)

pub fits_at : (g : List ℕ) (p : ℕ) → contacts_fit g ≡ true → p < listed_count g → contact_fits g (contact_at g (listed_at g p)) ≡ true
unfolding contacts_fit
fits_at g p e h = every_at (λ q. contact_fits g (contact_at g (listed_at g q))) (listed_count g) p e h

pub freed_at : (g : List ℕ) (k : ℕ) → free_given g ≡ true → k < free_count g → free_at g k < given_of g
unfolding free_given
freed_at g k e h = ltb-true (free_at g k) (given_of g) (every_at (λ j. ltb (free_at g j) (given_of g)) (free_count g) k e h)

-- ---- standing
pub stands_at : (g : List ℕ) (p : ℕ) → p < listed_count g → stands g (listed_at g p) ≡ true
unfolding stands
stands_at g p h = any_at (λ q. eqb (listed_at g q) (listed_at g p)) (listed_count g) p h (eq-eqb (listed_at g p) (listed_at g p) refl)

pub stands_found : (g : List ℕ) (id : ℕ) → stands g id ≡ true → (p : ℕ) × (p < listed_count g) × (listed_at g p ≡ id)
unfolding stands
stands_found g id e = let f = any_found (λ q. eqb (listed_at g q) id) (listed_count g) e in (f.0, f.1, eqb-true (listed_at g f.0) id f.2)

-- An id stands exactly if its record's pair_index is below the number listed and the list names the id there.
pub stands_by_index : (g : List ℕ) (id : ℕ) → names_back g ≡ true → stands g id ≡ (ltb (index_at g id) (listed_count g) && eqb (listed_at g (index_at g id)) id)
stands_by_index g id back = go (stands g id) refl
  where
    go : (b : Bool) → stands g id ≡ b → b ≡ (ltb (index_at g id) (listed_count g) && eqb (listed_at g (index_at g id)) id)
    go true e =
        let f = stands_found g id e in
        let i : index_at g id ≡ f.0 = ap (index_at g) (sym f.2) ∙ back_at g f.0 back f.1 in
        rw (lt-ltb (index_at g id) (listed_count g) (omega arith), eq-eqb (listed_at g (index_at g id)) id (ap (listed_at g) i ∙ f.2))
    go false e = none (ltb (index_at g id) (listed_count g)) (eqb (listed_at g (index_at g id)) id) refl refl
      where
        none : (a b : Bool) → ltb (index_at g id) (listed_count g) ≡ a → eqb (listed_at g (index_at g id)) id ≡ b → false ≡ (a && b)
        none false b p q = refl
        none true false p q = refl
        none true true p q =
            absurd (true≢false (sym (stands_at g (index_at g id) (ltb-true (index_at g id) (listed_count g) p)) ∙ ap (stands g) (eqb-true (listed_at g (index_at g id)) id q) ∙ e))

pub free_at_lem : (g : List ℕ) (k : ℕ) → k < free_count g → is_free g (free_at g k) ≡ true
unfolding is_free
free_at_lem g k h = any_at (λ j. eqb (free_at g j) (free_at g k)) (free_count g) k h (eq-eqb (free_at g k) (free_at g k) refl)

pub free_found : (g : List ℕ) (id : ℕ) → is_free g id ≡ true → (k : ℕ) × (k < free_count g) × (free_at g k ≡ id)
unfolding is_free
free_found g id e = let f = any_found (λ j. eqb (free_at g j) id) (free_count g) e in (f.0, f.1, eqb-true (free_at g f.0) id f.2)

-- ---- a contact's record
pub record Fitting (g : List ℕ) (at : ℕ) : Type 0 where
  pub collider1 : word_at g at < colliders
  pub collider2 : word_at g (at + 1) < colliders
  pub body1 : T (optional_fits bodies g (at + contact_body1))
  pub body2 : T (optional_fits bodies g (at + contact_body2))
  pub marks : (k : ℕ) → k < marks_size → word_at g (at + contact_edge_flags + k) < 2
  pub cache : word_at g (at + contact_cache) < 2
  pub manifolds : word_at g (at + contact_manifolds) ≤ pair_manifolds
  pub points : (k : ℕ) → k < word_at g (at + contact_manifolds) → word_at g (at + contact_manifolds + 1 + k * manifold_size) ≤ stored_points

names_fit_lem : (g : List ℕ) (at : ℕ) → names_fit g at ≡ true → (word_at g at < colliders) × (word_at g (at + 1) < colliders) × T (optional_fits bodies g (at + contact_body1)) × T (optional_fits bodies g (at + contact_body2))
unfolding names_fit
names_fit_lem g at e =
    let a = ltb (word_at g at) colliders in
    let b = ltb (word_at g (at + 1)) colliders in
    let c = optional_fits bodies g (at + contact_body1) in
    let d = optional_fits bodies g (at + contact_body2) in
    let l = first_of_lem (a && b) (c && d) e in
    let r = rest_of (a && b) (c && d) e in
    (ltb-true (word_at g at) colliders (first_of_lem a b l), ltb-true (word_at g (at + 1)) colliders (rest_of a b l), shown (first_of_lem c d r), shown (rest_of c d r))

marks_fit_lem : (g : List ℕ) (at : ℕ) → marks_fit g at ≡ true → ((k : ℕ) → k < marks_size → word_at g (at + contact_edge_flags + k) < 2) × (word_at g (at + contact_cache) < 2)
unfolding marks_fit
marks_fit_lem g at e =
    let f : ℕ → Bool = λ k. ltb (word_at g (at + contact_edge_flags + k)) 2 in
    let c = ltb (word_at g (at + contact_cache)) 2 in (
      λ k h. ltb-true (word_at g (at + contact_edge_flags + k)) 2 (every_at f marks_size k (first_of_lem (every f marks_size) c e) h),
      ltb-true (word_at g (at + contact_cache)) 2 (rest_of (every f marks_size) c e),
    )

manifolds_fit_lem : (g : List ℕ) (at : ℕ) → manifolds_fit g at ≡ true
    → (word_at g (at + contact_manifolds) ≤ pair_manifolds)
    × ((k : ℕ) → k < word_at g (at + contact_manifolds) → word_at g (at + contact_manifolds + 1 + k * manifold_size) ≤ stored_points)
unfolding manifolds_fit
manifolds_fit_lem g at e =
    let n = word_at g (at + contact_manifolds) in
    let points : ℕ → ℕ = λ k. word_at g (at + contact_manifolds + 1 + k * manifold_size) in
    let f : ℕ → Bool = λ k. leb (points k) stored_points in (
      leb-true n pair_manifolds (first_of_lem (leb n pair_manifolds) (every f n) e),
      λ k h. leb-true (points k) stored_points (every_at f n k (rest_of (leb n pair_manifolds) (every f n) e) h),
    )

pub fitting : (g : List ℕ) (at : ℕ) → contact_fits g at ≡ true → Fitting g at
unfolding contact_fits
fitting g at e =
    let r = rest_of (names_fit g at) (marks_fit g at && manifolds_fit g at) e in
    let n = names_fit_lem g at (first_of_lem (names_fit g at) (marks_fit g at && manifolds_fit g at) e) in
    let m = marks_fit_lem g at (first_of_lem (marks_fit g at) (manifolds_fit g at) r) in
    let s = manifolds_fit_lem g at (rest_of (marks_fit g at) (manifolds_fit g at) r) in
    record { collider1 = n.0; collider2 = n.1; body1 = n.2; body2 = n.3; marks = m.0; cache = m.1; manifolds = s.0; points = s.1 }

-- a body's mark, and its number where the mark is 1
pub optional_mark : (limit : ℕ) (g : List ℕ) (at : ℕ) → T (optional_fits limit g at) → word_at g at < 2
optional_mark limit g at t =
    ltb-true (word_at g at) 2 (first_of_lem (ltb (word_at g at) 2) (cond (eqb (word_at g at) 1) (ltb (word_at g (at + 1)) limit) true) (holds (optional_fits limit g at) t))

pub optional_below : (limit : ℕ) (g : List ℕ) (at : ℕ) → T (optional_fits limit g at) → word_at g at ≡ 1 → word_at g (at + 1) < limit
optional_below limit g at t e =
    let c = cond (eqb (word_at g at) 1) (ltb (word_at g (at + 1)) limit) true in
    let r : c ≡ true = rest_of (ltb (word_at g at) 2) c (holds (optional_fits limit g at) t) in
    ltb-true (word_at g (at + 1)) limit (ap (λ (b : Bool). cond b (ltb (word_at g (at + 1)) limit) true) (sym (eq-eqb (word_at g at) 1 e)) ∙ r)

-- ---- a graph in range
module _ {g : List ℕ} (r : InRange g) where
  pub listed_given_lem : (p : ℕ) → p < listed_count g → listed_at g p < given_of g
  listed_given_lem p h = given_at g p (holds (listed_given g) r.given) h

  pub listed_below : (p : ℕ) → p < listed_count g → listed_at g p < capacity_of g
  listed_below p h = omega (arith, listed_given_lem p h, (counts r).given)

  -- the record of the contact at a place names the place
  pub listed_index : (p : ℕ) → p < listed_count g → index_at g (listed_at g p) ≡ p
  listed_index p h = back_at g p (holds (names_back g) r.back) h

  -- so no id stands at two places
  pub listed_once : (p q : ℕ) → p < listed_count g → q < listed_count g → listed_at g p ≡ listed_at g q → p ≡ q
  listed_once p q h l e = sym (listed_index p h) ∙ ap (index_at g) e ∙ listed_index q l

  pub listed_fits_lem : (p : ℕ) → p < listed_count g → Fitting g (contact_at g (listed_at g p))
  listed_fits_lem p h = fitting g (contact_at g (listed_at g p)) (fits_at g p (holds (contacts_fit g) r.contacts) h)

  -- the record of a standing contact names its place in the list
  pub standing_place : (id : ℕ) → stands g id ≡ true → (index_at g id < listed_count g) × (listed_at g (index_at g id) ≡ id)
  standing_place id e =
      let f = stands_found g id e in
      let i : index_at g id ≡ f.0 = ap (index_at g) (sym f.2) ∙ listed_index f.0 f.1 in
      (omega arith, ap (listed_at g) i ∙ f.2)

  pub standing_given : (id : ℕ) → stands g id ≡ true → id < given_of g
  standing_given id e = let s = standing_place id e in subst (λ (n : ℕ). n < given_of g) s.1 (listed_given_lem (index_at g id) s.0)

  pub standing_below : (id : ℕ) → stands g id ≡ true → id < capacity_of g
  standing_below id e = omega (arith, standing_given id e, (counts r).given)

  pub standing_fits : (id : ℕ) → stands g id ≡ true → Fitting g (contact_at g id)
  standing_fits id e = let s = standing_place id e in subst (λ (n : ℕ). Fitting g (contact_at g n)) s.1 (listed_fits_lem (index_at g id) s.0)

  pub never_given : (id : ℕ) → given_of g ≤ id → stands g id ≡ false
  never_given id h = go (stands g id) refl
    where
      go : (b : Bool) → stands g id ≡ b → b ≡ false
      go true e = absurd (omega (arith, standing_given id e))
      go false e = refl

  pub free_given_lem : (k : ℕ) → k < free_count g → free_at g k < given_of g
  free_given_lem k h = freed_at g k (holds (free_given g) r.freed) h

  pub free_below : (k : ℕ) → k < free_count g → free_at g k < capacity_of g
  free_below k h = omega (arith, free_given_lem k h, (counts r).given)

  pub free_not_standing : (k : ℕ) → k < free_count g → stands g (free_at g k) ≡ false
  unfolding free_apart
  free_not_standing k h = not-true (stands g (free_at g k)) (every_at (λ j. not (stands g (free_at g j))) (free_count g) k (holds (free_apart g) r.apart) h)

  free_differs : (j k : ℕ) → j < k → k < free_count g → free_at g j ≡ free_at g k → ⊥
  unfolding free_once
  free_differs j k h l =
      eqb-false (free_at g j) (free_at g k)
      (not-true (eqb (free_at g j) (free_at g k))
      (every_at (λ i. not (eqb (free_at g i) (free_at g k))) k j
      (every_at (λ n. every (λ i. not (eqb (free_at g i) (free_at g n))) n) (free_count g) k (holds (free_once g) r.once) l) h))

  -- no id is free at two places
  pub free_once_lem : (j k : ℕ) → j < free_count g → k < free_count g → free_at g j ≡ free_at g k → j ≡ k
  free_once_lem j k h l e =
      let a : j < k → ⊥ = λ s. free_differs j k s l e in
      let b : k < j → ⊥ = λ s. free_differs k j s h (sym e) in
      omega arith

  -- an id that was given stands or is free
  pub given_known_lem : (id : ℕ) → id < given_of g → (stands g id ≡ true) ⊎ (is_free g id ≡ true)
  unfolding given_known
  given_known_lem id h = either (stands g id) (is_free g id) (every_at (λ i. stands g i || is_free g i) (given_of g) id (holds (given_known g) r.known) h)
    where
      either : (a b : Bool) → a || b ≡ true → (a ≡ true) ⊎ (b ≡ true)
      either true b e = inl refl
      either false b e = inr e

  -- two places of the list have different pairs
  pub pair_once : (p q : ℕ) → p < q → q < listed_count g → same_pair g p q ≡ false
  unfolding pairs_once
  pair_once p q h l =
      not-true (same_pair g p q)
      (every_at (λ i. not (same_pair g i q)) q p
      (every_at (λ n. every (λ i. not (same_pair g i n)) n) (listed_count g) q (holds (pairs_once g) r.pairs) l) h)
