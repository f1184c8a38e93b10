-- A removal from a graph in range leaves one in range. Assumes nothing.
use Rattle.std.specs.Prelude.{ℕ, ◌+◌, ◌-◌, ◌≤◌, ◌<◌, ◌≡◌, refl, ◌⊎◌, ◌≢◌, Bool, true, false, ◌&&◌, ◌||◌, List, eqb}
use Rattle.std.proofs.Common.{eq-or-lt_of_le, ◌∙◌, true≢false}
use native.Mathlib.Omega.{arith}
use Rattle.std.proofs.Math.Path.{sym, ap}
use Rattle.std.proofs.Math.Logic.{inl, inr}
use borrow.Author.Tests.{lt-ltb, le-leb, eq-eqb, ne_eqb, eqb-true}
use Rattle.rule_laws.specs.NumberLaws.{every_all}
use Rattle.words.specs.Words.{word_at}
use Rattle.layout.specs.Contact.{contact_pair_index, contact_size}
use Rattle.contact_range.specs.Recorded.{capacity_of, given_of, listed_count, free_count, listed_at, free_at, contact_at}
use Rattle.contact_range.specs.Range.{counts_fit, listed_given, names_back, contacts_fit, free_given, free_once, stands, is_free, free_apart, given_known, same_colliders, same_pair, pairs_once, InRange}
use Rattle.contact_range.specs.RangeLaws.{holds, shown, counts, back_at, fits_at, stands_at, stands_found, free_at_lem, free_found, listed_given_lem, listed_below, listed_index, listed_once, free_given_lem, free_not_standing, free_once_lem, given_known_lem, pair_once}
use Rattle.contact_graph.specs.IdLaws.{listed_not_free, given_sum}
use Rattle.contact_graph.specs.EffectLaws.{RemoveEffect, differ, same_or_not}
use Rattle.contact_range.specs.FitsLaws.{fits_same}
use Rattle.contact_range.specs.Conditions.{index_at}
use Rattle.contact_graph.specs.AddKeepsLaws.{not_true, or_left, or_right}

-- two numbers are equal either way round
eqb_swap : (a b : ℕ) → eqb a b ≡ eqb b a
eqb_swap a b = go (eqb a b) refl
  where
    go : (t : Bool) → eqb a b ≡ t → t ≡ eqb b a
    go true q = sym (eq-eqb b a (sym (eqb-true a b q)))
    go false q = sym (ne_eqb b a (λ s. true≢false (sym (eq-eqb a b (sym s)) ∙ q)))

and_swap : (a b : Bool) → a && b ≡ b && a
and_swap true true = refl
and_swap true false = refl
and_swap false true = refl
and_swap false false = refl

pub colliders_swap : (a b c d : ℕ) → same_colliders a b c d ≡ same_colliders c d a b
unfolding same_colliders
colliders_swap a b c d = rw (eqb_swap a c, eqb_swap b d, eqb_swap a d, eqb_swap b c, and_swap (eqb d a) (eqb c b))

pair_swap : (g : List ℕ) (p q : ℕ) → same_pair g p q ≡ same_pair g q p
unfolding same_pair
pair_swap g p q = colliders_swap _ _ _ _

-- the place in the old list of what the new list has at a place below its end
record Old (g h : List ℕ) (p q : ℕ) : Type 0 where
  place : ℕ
  below : place < listed_count g
  other : place ≢ p
  same : listed_at h q ≡ listed_at g place

module _ {g h : List ℕ} {id p : ℕ} (r : InRange g) (here : p < listed_count g) (names : listed_at g p ≡ id) (e : RemoveEffect g h id p (listed_at g (listed_count g - 1))) where
  abbrev end : ℕ
  end = listed_count g - 1

  old : (q : ℕ) → q < listed_count h → Old g h p q
  old q l =
      elim (same_or_not q p) [
        | inl s ↦ record { place = end; below = omega arith; other = omega (arith, e.listed, s, l); same = ap (listed_at h) s ∙ e.gap }
        | inr d ↦ record { place = q; below = omega (arith, e.listed); other = d; same = e.list q (omega (arith, e.listed)) d }
      ]

  -- a record's words, but for the moved contact's place
  word_kept : (i o : ℕ) → i < capacity_of g → o < contact_size → o ≢ contact_pair_index → word_at h (contact_at h i + o) ≡ word_at g (contact_at g i + o)
  word_kept i o l a d = e.words i o l a (λ s t. d t)

  record_kept : (q : ℕ) (l : q < listed_count h) (o : ℕ) → o < contact_size → o ≢ contact_pair_index → word_at h (contact_at h (listed_at h q) + o) ≡ word_at g (contact_at g (listed_at g (old q l).place) + o)
  record_kept q l o a d =
      let s = old q l in
      ap (λ (i : ℕ). word_at h (contact_at h i + o)) s.same ∙ word_kept (listed_at g s.place) o (listed_below r s.place s.below) a d

  counts_kept : counts_fit h ≡ true
  unfolding counts_fit
  counts_kept =
      let z = counts r in
      rw (
        le-leb (given_of h) (capacity_of h) (omega (arith, e.given, e.capacity)),
        le-leb (listed_count h) (capacity_of h) (omega (arith, e.listed, e.capacity)),
        le-leb (free_count h) (capacity_of h) (omega (arith, e.freed, e.capacity, given_sum r)),
      )

  given_kept : listed_given h ≡ true
  unfolding listed_given
  given_kept =
      every_all _ (listed_count h)
      (λ q l. let s = old q l in lt-ltb (listed_at h q) (given_of h) (omega (arith, s.same, listed_given_lem r s.place s.below, e.given)))

  back_kept : names_back h ≡ true
  unfolding names_back
  back_kept =
      every_all _ (listed_count h)
      (λ q l. eq-eqb (word_at h (contact_at h (listed_at h q) + contact_pair_index)) q
      (elim (same_or_not q p) [
        | inl s ↦ ap (λ (i : ℕ). word_at h (contact_at h i + contact_pair_index)) (ap (listed_at h) s ∙ e.gap) ∙ e.moved ∙ sym s
        | inr d ↦
            let b : q < listed_count g = omega (arith, e.listed) in
            ap (λ (i : ℕ). word_at h (contact_at h i + contact_pair_index)) (e.list q b d)
            ∙ e.words (listed_at g q) contact_pair_index (listed_below r q b) (omega arith) (λ s t. let z = listed_once r q end b (omega arith) s in omega (arith, e.listed))
            ∙ listed_index r q b
      ]))

  fits_kept : contacts_fit h ≡ true
  unfolding contacts_fit
  fits_kept =
      every_all _ (listed_count h)
      (λ q l. let s = old q l in
      fits_same g (contact_at g (listed_at g s.place)) h (contact_at h (listed_at h q)) (record_kept q l) ∙ fits_at g s.place (holds _ r.contacts) s.below)

  -- a place of the free ids is an old one, or the new one
  free_cases : (k : ℕ) → k < free_count h → (k < free_count g) ⊎ (k ≡ free_count g)
  free_cases k l = elim (eq-or-lt_of_le (let z : k ≤ free_count g = omega (arith, e.freed) in z)) [ inl q ↦ inr q | inr q ↦ inl q ]

  free_new : (k : ℕ) → k ≡ free_count g → free_at h k ≡ id
  free_new k q = ap (free_at h) q ∙ e.free_last

  freed_kept : free_given h ≡ true
  unfolding free_given
  freed_kept =
      every_all _ (free_count h)
      (λ k l. lt-ltb (free_at h k) (given_of h)
      (elim (free_cases k l) [
        | inl q ↦ omega (arith, e.free k q, free_given_lem r k q, e.given)
        | inr q ↦ omega (arith, free_new k q, names, listed_given_lem r p here, e.given)
      ]))

  once_kept : free_once h ≡ true
  unfolding free_once
  once_kept =
      every_all _ (free_count h)
      (λ k l. every_all _ k
      (λ j i. not_true (eqb (free_at h j) (free_at h k))
      (ne_eqb (free_at h j) (free_at h k)
      (λ s. let b : j < free_count g = omega (arith, e.freed) in
      elim (free_cases k l) [
        | inl q ↦ let z = free_once_lem r j k b q (sym (e.free j b) ∙ s ∙ e.free k q) in omega arith
        | inr q ↦ listed_not_free r p j here b (names ∙ sym (free_new k q) ∙ sym s ∙ e.free j b)
      ]))))

  -- what stands in the new graph stood, and is not the removed one
  stood : (i : ℕ) → stands h i ≡ true → (stands g i ≡ true) × (i ≢ id)
  stood i s =
      let f = stands_found h i s in
      let b = old f.0 f.1 in
      let at : listed_at g b.place ≡ i = sym b.same ∙ f.2 in
      (ap (stands g) (sym at) ∙ stands_at g b.place b.below, λ q. b.other (listed_once r b.place p b.below here (at ∙ q ∙ sym names)))

  stands_still : (i : ℕ) → stands g i ≡ true → i ≢ id → stands h i ≡ true
  stands_still i s d =
      let f = stands_found g i s in
      let n : f.0 ≢ p = λ q. d (sym f.2 ∙ ap (listed_at g) q ∙ names) in
      elim (same_or_not f.0 end) [
        | inl q ↦
            ap (stands h) (sym (e.gap ∙ ap (listed_at g) (sym q) ∙ f.2))
            ∙ stands_at h p (omega (arith, e.listed, n, q))
        | inr q ↦ ap (stands h) (sym (e.list f.0 f.1 n ∙ f.2)) ∙ stands_at h f.0 (omega (arith, e.listed, f.1, q))
      ]

  stands_no : (i : ℕ) → (stands g i ≡ false) ⊎ (i ≡ id) → stands h i ≡ false
  stands_no i c = go (stands h i) refl
    where
      go : (t : Bool) → stands h i ≡ t → t ≡ false
      go false q = refl
      go true q = let b = stood i q in absurd (elim c [ inl a ↦ true≢false (sym b.0 ∙ a) | inr a ↦ b.1 a ])

  apart_kept : free_apart h ≡ true
  unfolding free_apart
  apart_kept =
      every_all _ (free_count h)
      (λ k l. not_true (stands h (free_at h k))
      (elim (free_cases k l) [
        | inl q ↦ ap (stands h) (e.free k q) ∙ stands_no (free_at g k) (inl (free_not_standing r k q))
        | inr q ↦ ap (stands h) (free_new k q) ∙ stands_no id (inr refl)
      ]))

  free_again : is_free h id ≡ true
  free_again = ap (is_free h) (sym e.free_last) ∙ free_at_lem h (free_count g) (omega (arith, e.freed))

  known_from : (i : ℕ) → (stands g i ≡ true) ⊎ (is_free g i ≡ true) → stands h i || is_free h i ≡ true
  known_from i (inl s) =
      elim (same_or_not i id) [
        | inl q ↦ or_right (stands h i) (is_free h i) (ap (is_free h) q ∙ free_again)
        | inr d ↦ or_left (stands h i) (is_free h i) (stands_still i s d)
      ]
  known_from i (inr s) =
      let f = free_found g i s in
      or_right (stands h i) (is_free h i) (ap (is_free h) (sym (e.free f.0 f.1 ∙ f.2)) ∙ free_at_lem h f.0 (omega (arith, e.freed, f.1)))

  known_kept : given_known h ≡ true
  unfolding given_known
  known_kept = every_all _ (given_of h) (λ i l. known_from i (given_known_lem r i (omega (arith, e.given))))

  first_word : (q : ℕ) (l : q < listed_count h) → word_at h (contact_at h (listed_at h q)) ≡ word_at g (contact_at g (listed_at g (old q l).place))
  first_word q l =
      ap (word_at h) (let z : contact_at h (listed_at h q) ≡ contact_at h (listed_at h q) + 0 = omega arith in z) ∙ record_kept q l 0 (omega arith) (omega arith)
      ∙ ap (word_at g) (let z : contact_at g (listed_at g (old q l).place) + 0 ≡ contact_at g (listed_at g (old q l).place) = omega arith in z)

  pair_same : (a b : ℕ) (l : a < listed_count h) (m : b < listed_count h) → same_pair h a b ≡ same_pair g (old a l).place (old b m).place
  unfolding same_pair
  pair_same a b l m = rw (first_word a l, record_kept a l 1 (omega arith) (omega arith), first_word b m, record_kept b m 1 (omega arith) (omega arith))

  -- two places of the new list are two of the old
  places_differ : (a b : ℕ) (l : a < listed_count h) (m : b < listed_count h) → a ≢ b → (old a l).place ≢ (old b m).place
  places_differ a b l m n q =
      let back : (c : ℕ) (k : c < listed_count h) → listed_at h c ≡ listed_at g (old c k).place = λ c k. (old c k).same in
      n (index_of a l ∙ ap (λ (i : ℕ). index_at h i) (back a l ∙ ap (listed_at g) q ∙ sym (back b m)) ∙ sym (index_of b m))
    where
      index_of : (c : ℕ) (k : c < listed_count h) → c ≡ index_at h (listed_at h c)
      index_of c k = sym (back_at h c back_kept k)

  pairs_kept : pairs_once h ≡ true
  unfolding pairs_once
  pairs_kept =
      every_all _ (listed_count h)
      (λ b m. every_all _ b
      (λ a i. not_true (same_pair h a b)
      (let l : a < listed_count h = omega arith in
      let s = old a l in
      let t = old b m in
      pair_same a b l m
      ∙ elim (differ s.place t.place (places_differ a b l m (omega arith))) [
        | inl x ↦ pair_once r s.place t.place x t.below
        | inr x ↦ pair_swap g s.place t.place ∙ pair_once r t.place s.place x s.below
      ])))

  pub remove_keeps : InRange h
  remove_keeps =
      record {
        counts = shown counts_kept;
        given = shown given_kept;
        back = shown back_kept;
        contacts = shown fits_kept;
        freed = shown freed_kept;
        once = shown once_kept;
        apart = shown apart_kept;
        known = shown known_kept;
        pairs = shown pairs_kept;
      }
