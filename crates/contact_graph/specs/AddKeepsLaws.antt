-- An addition to a graph in range leaves one in range. Assumes nothing.
use Rattle.std.specs.Prelude.{ℕ, ◌+◌, ◌-◌, ◌≤◌, ◌<◌, ◌≡◌, refl, ◌⊎◌, ◌≢◌, Bool, true, false, not, ◌||◌, List}
use Rattle.std.proofs.Common.{eq-or-lt_of_le, arith, ◌∙◌, true≢false}
use Rattle.std.proofs.Math.Path.{sym, ap}
use Rattle.std.proofs.Math.Logic.{inl, inr}
use borrow.Author.Tests.{lt-ltb, le-leb, eq-eqb, ne_eqb}
use Rattle.rule_laws.specs.NumberLaws.{every_all}
use Rattle.words.specs.Words.{word_at}
use Rattle.layout.specs.Contact.{contact_pair_index, contact_size}
use Rattle.contact_range.specs.Recorded.{capacity_of, given_of, listed_count, free_count, listed_at, free_at, contact_at}
use Rattle.contact_range.specs.Range.{contact_fits, counts_fit, listed_given, names_back, contacts_fit, free_given, free_once, stands, is_free, free_apart, given_known, same_colliders, same_pair, pairs_once, InRange}
use Rattle.contact_range.specs.RangeLaws.{holds, shown, counts, fits_at, stands_at, stands_found, free_at_lem, free_found, listed_given_lem, listed_below, listed_index, free_given_lem, free_not_standing, free_once_lem, given_known_lem, pair_once}
use Rattle.contact_graph.specs.EffectLaws.{AddEffect, same_or_not}
use Rattle.contact_range.specs.FitsLaws.{fits_same}

-- the new id, the ids then given and the ids then free: the lowest never given where none is free, else the one freed last
pub data NewId (g : List ℕ) (id m n : ℕ) : Type 0 where
  lowest : free_count g ≡ 0 → id ≡ given_of g → m ≡ given_of g + 1 → n ≡ 0 → NewId g id m n
  freed : 0 < free_count g → id ≡ free_at g (free_count g - 1) → m ≡ given_of g → n ≡ free_count g - 1 → NewId g id m n

pub not_true : (b : Bool) → b ≡ false → not b ≡ true
not_true b e = ap not e

pub or_left : (a b : Bool) → a ≡ true → a || b ≡ true
or_left a b q = rw q

pub or_right : (a b : Bool) → b ≡ true → a || b ≡ true
or_right true b q = refl
or_right false b q = q

module _ {g h words : List ℕ} {id m n : ℕ} (r : InRange g) (e : AddEffect g h words id m n) (new : NewId g id m n) (below : id < capacity_of g) (room : listed_count g < capacity_of g)
    (alone : stands g id ≡ false) (fits : contact_fits h (contact_at h id) ≡ true)
    (fresh : (q : ℕ) → q < listed_count g → same_colliders (word_at h (contact_at h (listed_at h q))) (word_at h (contact_at h (listed_at h q) + 1)) (word_at h (contact_at h id)) (word_at h (contact_at h id + 1)) ≡ false) where
  -- a place of the new list is one of the old, or the new one
  place_cases : (p : ℕ) → p < listed_count h → (p < listed_count g) ⊎ (p ≡ listed_count g)
  place_cases p l = elim (eq-or-lt_of_le (let z : p ≤ listed_count g = omega (arith, e.listed) in z)) [ inl q ↦ inr q | inr q ↦ inl q ]

  new_at : (p : ℕ) → p ≡ listed_count g → listed_at h p ≡ id
  new_at p q = ap (listed_at h) q ∙ e.last

  -- a listed id is another one than the new
  other : (p : ℕ) → p < listed_count g → listed_at g p ≢ id
  other p l q = true≢false (sym (stands_at g p l) ∙ ap (stands g) q ∙ alone)

  given_more : given_of g ≤ m
  given_more = go new
    where
      go : NewId g id m n → given_of g ≤ m
      go (lowest a b c d) = omega arith
      go (freed a b c d) = omega arith

  given_most : m ≤ capacity_of g
  given_most = go new
    where
      go : NewId g id m n → m ≤ capacity_of g
      go (lowest a b c d) = omega arith
      go (freed a b c d) = let z = counts r in omega arith

  id_given : id < m
  id_given = go new
    where
      go : NewId g id m n → id < m
      go (lowest a b c d) = omega arith
      go (freed a b c d) = let z = free_given_lem r (free_count g - 1) (omega arith) in omega arith

  free_less : n ≤ free_count g
  free_less = go new
    where
      go : NewId g id m n → n ≤ free_count g
      go (lowest a b c d) = omega arith
      go (freed a b c d) = omega arith

  free_word : (k : ℕ) → k < free_count h → free_at h k ≡ free_at g k
  free_word k l = let z = counts r in e.free k (omega (arith, e.freed, free_less))

  counts_kept : counts_fit h ≡ true
  unfolding counts_fit
  counts_kept =
      let z = counts r in
      rw (
        le-leb (given_of h) (capacity_of h) (omega (arith, e.given, e.capacity, given_most)),
        le-leb (listed_count h) (capacity_of h) (omega (arith, e.listed, e.capacity)),
        le-leb (free_count h) (capacity_of h) (omega (arith, e.freed, e.capacity, free_less)),
      )

  given_kept : listed_given h ≡ true
  unfolding listed_given
  given_kept =
      every_all _ (listed_count h)
      (λ p l. lt-ltb (listed_at h p) (given_of h)
      (elim (place_cases p l) [
        | inl q ↦ omega (arith, e.list p q, listed_given_lem r p q, e.given, given_more)
        | inr q ↦ omega (arith, new_at p q, e.given, id_given)
      ]))

  -- the record of an old contact is as it was
  record_kept : (p : ℕ) (l : p < listed_count g) (o : ℕ) → o < contact_size → word_at h (contact_at h (listed_at h p) + o) ≡ word_at g (contact_at g (listed_at g p) + o)
  record_kept p l o s = ap (λ (i : ℕ). word_at h (contact_at h i + o)) (e.list p l) ∙ e.others (listed_at g p) o (listed_below r p l) (other p l) s

  back_kept : ((own : word_at h (contact_at h id + contact_pair_index) ≡ listed_count g) → names_back h ≡ true)
  unfolding names_back
  back_kept own =
      every_all _ (listed_count h)
      (λ p l. eq-eqb (word_at h (contact_at h (listed_at h p) + contact_pair_index)) p
      (elim (place_cases p l) [
        | inl q ↦ record_kept p q contact_pair_index (omega arith) ∙ listed_index r p q
        | inr q ↦ ap (λ (i : ℕ). word_at h (contact_at h i + contact_pair_index)) (new_at p q) ∙ own ∙ sym q
      ]))

  fits_kept : contacts_fit h ≡ true
  unfolding contacts_fit
  fits_kept =
      every_all _ (listed_count h)
      (λ p l. elim (place_cases p l) [
        | inl q ↦ fits_same g (contact_at g (listed_at g p)) h (contact_at h (listed_at h p)) (λ o a _. record_kept p q o a) ∙ fits_at g p (holds _ r.contacts) q
        | inr q ↦ ap (λ (i : ℕ). contact_fits h (contact_at h i)) (new_at p q) ∙ fits
      ])

  freed_kept : free_given h ≡ true
  unfolding free_given
  freed_kept =
      every_all _ (free_count h)
      (λ k l. lt-ltb (free_at h k) (given_of h) (omega (arith, free_word k l, free_given_lem r k (omega (arith, e.freed, free_less)), e.given, given_more)))

  once_kept : free_once h ≡ true
  unfolding free_once
  once_kept =
      every_all _ (free_count h)
      (λ k l. every_all _ k
      (λ j i. not_true _
      (ne_eqb (free_at h j) (free_at h k)
      (λ q. let z = free_once_lem r j k (omega (arith, e.freed, free_less)) (omega (arith, e.freed, free_less)) (sym (free_word j (omega arith)) ∙ q ∙ free_word k l) in omega arith))))

  -- what stands in the new graph: what stood, and the new id
  stood : (i : ℕ) → stands h i ≡ true → (stands g i ≡ true) ⊎ (i ≡ id)
  stood i s =
      let f = stands_found h i s in
      elim (place_cases f.0 f.1) [
        | inl q ↦ inl (ap (stands g) (sym (sym (e.list f.0 q) ∙ f.2)) ∙ stands_at g f.0 q)
        | inr q ↦ inr (sym f.2 ∙ new_at f.0 q)
      ]

  stands_still : (i : ℕ) → stands g i ≡ true → stands h i ≡ true
  stands_still i s =
      let f = stands_found g i s in
      ap (stands h) (sym (e.list f.0 f.1 ∙ f.2)) ∙ stands_at h f.0 (omega (arith, f.1, e.listed))

  stands_new : stands h id ≡ true
  stands_new = ap (stands h) (sym e.last) ∙ stands_at h (listed_count g) (omega (arith, e.listed))

  -- a free id of the new graph is not the new id
  free_other : (k : ℕ) → k < free_count h → free_at g k ≡ id → ⊥
  free_other k l q = go new
    where
      go : NewId g id m n → ⊥
      go (lowest a b c d) = omega (arith, e.freed)
      go (freed a b c d) = let z = free_once_lem r k (free_count g - 1) (omega (arith, e.freed)) (omega arith) (q ∙ b) in omega (arith, e.freed)

  stands_no : (i : ℕ) → stands g i ≡ false → i ≢ id → stands h i ≡ false
  stands_no i s d = go (stands h i) refl
    where
      go : (t : Bool) → stands h i ≡ t → t ≡ false
      go false q = refl
      go true q = absurd (elim (stood i q) [ inl a ↦ true≢false (sym a ∙ s) | inr a ↦ d a ])

  apart_kept : free_apart h ≡ true
  unfolding free_apart
  apart_kept =
      every_all _ (free_count h)
      (λ k l. not_true _
      (ap (stands h) (free_word k l) ∙ stands_no (free_at g k) (free_not_standing r k (omega (arith, e.freed, free_less))) (free_other k l)))

  known_from : (i : ℕ) → (stands g i ≡ true) ⊎ (is_free g i ≡ true) → stands h i || is_free h i ≡ true
  known_from i (inl s) = or_left (stands h i) (is_free h i) (stands_still i s)
  known_from i (inr s) =
      let f = free_found g i s in
      elim (same_or_not i id) [
        | inl q ↦ or_left (stands h i) (is_free h i) (ap (stands h) q ∙ stands_new)
        | inr d ↦
            let l : f.0 < free_count h = left f.0 f.1 (λ z. d (sym f.2 ∙ z)) new in
            or_right (stands h i) (is_free h i) (ap (is_free h) (sym (free_word f.0 l ∙ f.2)) ∙ free_at_lem h f.0 l)
      ]
    where
      left : (k : ℕ) → k < free_count g → (free_at g k ≡ id → ⊥) → NewId g id m n → k < free_count h
      left k l d (lowest a b c q) = absurd (omega arith)
      left k l d (freed a b c q) = elim (same_or_not k (free_count g - 1)) [ inl s ↦ absurd (d (ap (free_at g) s ∙ sym b)) | inr s ↦ omega (arith, e.freed, s) ]

  known_kept : given_known h ≡ true
  unfolding given_known
  known_kept =
      every_all _ (given_of h)
      (λ i l. elim (same_or_not i id) [
        | inl q ↦ or_left (stands h i) (is_free h i) (ap (stands h) q ∙ stands_new)
        | inr d ↦ known_from i (given_known_lem r i (old i l d new))
      ])
    where
      old : (i : ℕ) → i < given_of h → i ≢ id → NewId g id m n → i < given_of g
      old i l d (lowest a b c q) = omega (arith, e.given, d)
      old i l d (freed a b c q) = omega (arith, e.given)

  first_word : (p : ℕ) (q : p < listed_count g) → word_at h (contact_at h (listed_at h p)) ≡ word_at g (contact_at g (listed_at g p))
  first_word p q =
      ap (word_at h) (let z : contact_at h (listed_at h p) ≡ contact_at h (listed_at h p) + 0 = omega arith in z) ∙ record_kept p q 0 (omega arith)
      ∙ ap (word_at g) (let z : contact_at g (listed_at g p) + 0 ≡ contact_at g (listed_at g p) = omega arith in z)

  pair_same : (p q : ℕ) → p < listed_count g → q < listed_count g → same_pair h p q ≡ same_pair g p q
  unfolding same_pair
  pair_same p q a b =
      rw (first_word p a, record_kept p a 1 (omega arith), first_word q b, record_kept q b 1 (omega arith))

  pair_new : (p q : ℕ) → p < listed_count g → q ≡ listed_count g → same_pair h p q ≡ false
  unfolding same_pair
  pair_new p q a b =
      ap (λ (i : ℕ). same_colliders (word_at h (contact_at h (listed_at h p))) (word_at h (contact_at h (listed_at h p) + 1)) (word_at h (contact_at h i)) (word_at h (contact_at h i + 1))) (new_at q b)
      ∙ fresh p a

  pairs_kept : pairs_once h ≡ true
  unfolding pairs_once
  pairs_kept =
      every_all _ (listed_count h)
      (λ p l. every_all _ p
      (λ q i. not_true (same_pair h q p)
      (elim (place_cases p l) [
        | inl s ↦ pair_same q p (omega arith) s ∙ pair_once r q p i s
        | inr s ↦ pair_new q p (omega arith) s
      ])))

  pub add_keeps : word_at h (contact_at h id + contact_pair_index) ≡ listed_count g → InRange h
  add_keeps own =
      record {
        counts = shown counts_kept;
        given = shown given_kept;
        back = shown (back_kept own);
        contacts = shown fits_kept;
        freed = shown freed_kept;
        once = shown once_kept;
        apart = shown apart_kept;
        known = shown known_kept;
        pairs = shown pairs_kept;
      }
