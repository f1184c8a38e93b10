-- What the range test's functions pass to each other, and the turns of its loops. Assumes nothing.
use Rattle.std.specs.Prelude.{◌≡◌, refl, ℕ, zero, suc, ◌+◌, ◌*◌, ◌/◌, ◌%◌, ◌≤◌, ◌<◌, ◌^◌, min, max, Bool, true, false, cond, not, ◌&&◌, ◌||◌, List, [], ◌∷◌, ◌⊎◌, T, eqb, ltb, leb, length, get_or}
use Rattle.std.proofs.Common.{sym, ap, subst, ◌∙◌, add-one, arith, true≢false, inl, inr, ltb-true, ltb-false, eqb-true, lt-ltb, le-ltb, le-leb, eq-eqb}
use Rattle.std.proofs.Math.Bool.{or-true, or-false, and_assoc, and_comm}
use Rattle.std.proofs.lemmas.Bool.{eqb-false, lt-leb, not-true, not-false}
use Rattle.rules.specs.Limits.{colliders}
use Rattle.rules.specs.Numbers.{every, any}
use Rattle.rule_laws.specs.NumberLaws.{every_same}
use Rattle.data_structures.specs.BitVec.{bit_of, bit_at, marked}
use Rattle.data_structures.specs.BitVecLaws.{bit_marked, length_marked}
use Rattle.data_structures.specs.PairKey.{key_of, ids_of}
use Rattle.data_structures.specs.PairKeyLaws.{key_order, key_same, ids_of_key}
use Rattle.data_structures.specs.WordLaws.{bit_zero}
use Rattle.data_structures.specs.declared.pair_key.PairIds.{PairIds}
use Rattle.words.specs.Words.{word_at}
use Rattle.layout.specs.Contact.{contact_pair_index}
use Rattle.contact_range.specs.Recorded.{capacity_of, listed_count, free_count, listed_at, free_at, contact_at}
use Rattle.contact_range.specs.Range.{counts_fit, listed_given, names_back, contacts_fit, free_given, free_once, stands, is_free, free_apart, given_known, same_colliders, same_pair, pairs_once, in_range}
use Rattle.contact_range.specs.RangeLaws.{holds, shown, first_of_lem, rest_of, counts_fit_lem, given_at, fits_at, stands_by_index, fitting}
use Rattle.contact_range.specs.Conditions.{RightLength, RecordAt, ListedGiven, Standing, Unmarked, FreeTaken, listed_fits, free_fits, pair_number, index_at}

-- ---- tests of what was read or asked, as a branch of the code gives them
pub refused : {r t : Bool} → r ≡ t → not r ≡ true → t ≡ false
refused {r} e h = sym e ∙ not-true r h

pub passed : {r t : Bool} → r ≡ t → not r ≡ false → t ≡ true
passed {r} e h = sym e ∙ not-false r h

pub refused_by : {r t : Bool} → r ≡ t → r ≡ false → t ≡ false
refused_by e h = sym e ∙ h

pub passed_by : {r t : Bool} → r ≡ t → r ≡ true → t ≡ true
passed_by e h = sym e ∙ h

module _ {r n : ℕ} (e : r ≡ n) where
  pub below : {m : ℕ} → r < m → ltb n m ≡ true
  below {m} h = lt-ltb n m (omega arith)

  pub not_below : {m : ℕ} → m ≤ r → ltb n m ≡ false
  not_below {m} h = le-ltb n m (omega arith)

  pub within : {m : ℕ} → r ≤ m → leb n m ≡ true
  within {m} h = le-leb n m (omega arith)

  pub above : {m : ℕ} → m < r → leb n m ≡ false
  above {m} h = lt-leb n m (omega arith)

-- a loop through the numbers below n that comes to its end
pub every_done : (test : ℕ → Bool) (n : ℕ) {k : ℕ} → every test k ≡ true → k ≤ n → n ≤ k → every test n ≡ true
every_done test n {k} e h l = subst (λ (m : ℕ). every test m ≡ true) (let z : k ≡ n = omega arith in z) e

pub every_none : (test : ℕ → Bool) → every test 0 ≡ true
unfolding every
every_none test = refl

-- ---- what is known after the first conditions

pub below_at : {g : List ℕ} (p : ℕ) → ListedGiven g → p < listed_count g → listed_at g p < capacity_of g
below_at {g} p l h = omega (arith, given_at g p l.given h, l.counted.counts.given)

-- ---- what is read of a listed contact
module _ (g : List ℕ) {id at : ℕ} (r : RecordAt g id at) where
  pub index_of : {i : ℕ} → i ≡ word_at g (at + contact_pair_index) → i ≡ index_at g id
  index_of e = e ∙ ap (λ (n : ℕ). word_at g (n + contact_pair_index)) r.place

  module _ (p : ℕ) (e : id ≡ listed_at g p) where
    pub place_read : at ≡ contact_at g (listed_at g p)
    place_read = r.place ∙ ap (contact_at g) e

    pub index_read : {i : ℕ} → i ≡ word_at g (at + contact_pair_index) → i ≡ index_at g (listed_at g p)
    index_read f = index_of f ∙ ap (index_at g) e

    pub colliders_read : contacts_fit g ≡ true → p < listed_count g → (word_at g at < colliders) × (word_at g (at + 1) < colliders)
    colliders_read c h =
        let f = fitting g (contact_at g (listed_at g p)) (fits_at g p c h) in
        subst (λ (n : ℕ). (word_at g n < colliders) × (word_at g (n + 1) < colliders)) (sym place_read) (f.collider1, f.collider2)

-- an id stands, by its record
pub standing_past : (g : List ℕ) (id : ℕ) {i l : ℕ} → names_back g ≡ true → i ≡ index_at g id → l ≡ listed_count g → l ≤ i → false ≡ stands g id
standing_past g id b p q h = rw (stands_by_index g id b, le-ltb (index_at g id) (listed_count g) (omega arith))

pub standing_read : (g : List ℕ) (id : ℕ) {i l e : ℕ} → names_back g ≡ true → i ≡ index_at g id → l ≡ listed_count g → i < l → e ≡ listed_at g i → eqb e id ≡ stands g id
standing_read g id b p q h r = rw (stands_by_index g id b, lt-ltb (index_at g id) (listed_count g) (omega arith), ← p, ← r)

-- ---- bits that mark what a row of numbers had
pub record Marked (f : ℕ → ℕ) (k : ℕ) (bits : List ℕ) : Type 0 where
  pub each : (n : ℕ) → bit_at bits n ≡ any (λ j. eqb (f j) n) k

pub marked_none : (f : ℕ → ℕ) {bits : List ℕ} → Unmarked bits → Marked f 0 bits
unfolding any
marked_none f u = record { each = u.each }

pub marked_next : (f : ℕ → ℕ) (k : ℕ) {bits : List ℕ} → Marked f k bits → f k < 64 * length bits → Marked f (k + 1) (marked bits (f k))
unfolding any
marked_next f k {bits} m h = record { each = λ n. rw add-one (bit_marked bits (f k) n h ∙ turn (eqb (f k) n) (bit_at bits n) ∙ ap (λ (b : Bool). b || eqb (f k) n) (m.each n)) }
  where
    turn : (a b : Bool) → cond a true b ≡ b || a
    turn true b = sym (or-true b)
    turn false b = sym (or-false b)

every_not : (t : ℕ → Bool) (n : ℕ) → every (λ k. not (t k)) n ≡ not (any t n)
unfolding every any
every_not t zero = refl
every_not t (suc n) = ap (λ (b : Bool). b && not (t n)) (every_not t n) ∙ turn (any t n) (t n)
  where
    turn : (a b : Bool) → not a && not b ≡ not (a || b)
    turn true b = refl
    turn false b = refl

-- the number at k is not among those before it, exactly if its bit is not set
pub fresh : (f : ℕ → ℕ) (k : ℕ) {bits : List ℕ} → Marked f k bits → every (λ j. not (eqb (f j) (f k))) k ≡ not (bit_at bits (f k))
fresh f k m = every_not (λ j. eqb (f j) (f k)) k ∙ ap not (sym (m.each (f k)))

-- a turn of a loop that sets the bit of the number at k, and answers whether it was not set before
pub fresh_at : (f : ℕ → ℕ) (k : ℕ) {bits : List ℕ} {n : ℕ} {r : Bool} → Marked f k bits → n ≡ f k → r ≡ not (bit_at bits n) → every (λ j. not (eqb (f j) (f k))) k ≡ r
fresh_at f k {bits} m e h = fresh f k m ∙ ap not (ap (bit_at bits) (sym e)) ∙ sym h

pub marks_next : (f : ℕ → ℕ) (k : ℕ) {bits after : List ℕ} {n : ℕ} → Marked f k bits → n ≡ f k → n < 64 * length bits → after ≡ marked bits n → Marked f (k + 1) after
marks_next f k {bits} {after} {n} m e h s =
    subst (Marked f (k + 1)) (sym (s ∙ ap (marked bits) e)) (marked_next f k m (omega arith))

pub marks_size_lem : (bits : List ℕ) (n : ℕ) {after : List ℕ} {m : ℕ} → after ≡ marked bits n → length bits ≡ m → length after ≡ m
marks_size_lem bits n e h = ap length e ∙ length_marked bits n ∙ h

-- words that are all 0
unfoldable pub all_zero : List ℕ → Bool
all_zero [] = true
all_zero (w ∷ ws) = eqb w 0 && all_zero ws

zero_at : (ws : List ℕ) (k : ℕ) → T (all_zero ws) → get_or ws k 0 ≡ 0
unfolding all_zero
zero_at [] k t = refl
zero_at (w ∷ ws) zero t = eqb-true w 0 (first_of_lem (eqb w 0) (all_zero ws) (holds (eqb w 0 && all_zero ws) t))
zero_at (w ∷ ws) (suc k) t = zero_at ws k (shown (rest_of (eqb w 0) (all_zero ws) (holds (eqb w 0 && all_zero ws) t)))

pub unmarked : (ws : List ℕ) → T (all_zero ws) → Unmarked ws
unfolding bit_at
unmarked ws t = record { each = λ n. ap (λ (w : ℕ). bit_of w (n % 64)) (zero_at ws (n / 64) t) ∙ bit_zero (n % 64) }

-- ---- free ids

pub free_taken : (g : List ℕ) {k : ℕ} {bits : List ℕ} → Marked (free_at g) k bits → k ≡ free_count g → FreeTaken g bits
unfolding is_free
free_taken g m e = record { each = λ id. m.each id ∙ ap (any (λ j. eqb (free_at g j) id)) e }

-- ---- the conditions in three parts: the list, the pairs, the free ids

pub in_range_parts : (g : List ℕ) → in_range g ≡ (listed_fits g && (pairs_once g && free_fits g))
unfolding in_range listed_fits free_fits
in_range_parts g = rw (and_comm (pairs_once g) (free_given g && (free_once g && (free_apart g && given_known g)))) (simp and_assoc)

pub listed_standing : {g : List ℕ} → RightLength g → listed_fits g ≡ true → Standing g
unfolding listed_fits
listed_standing {g} l e =
    let r = rest_of (counts_fit g) (listed_given g && (names_back g && contacts_fit g)) e in
    let s = rest_of (listed_given g) (names_back g && contacts_fit g) r in
    let n = counts_fit_lem (first_of_lem (counts_fit g) (listed_given g && (names_back g && contacts_fit g)) e) in
    record {
      listed = record { counted = record { right = l; counts = n }; given = first_of_lem (listed_given g) (names_back g && contacts_fit g) r };
      back = first_of_lem (names_back g) (contacts_fit g) s;
    }

pub contacts_known : (g : List ℕ) → listed_fits g ≡ true → contacts_fit g ≡ true
unfolding listed_fits
contacts_known g e =
    rest_of (names_back g) (contacts_fit g)
    (rest_of (listed_given g) (names_back g && contacts_fit g) (rest_of (counts_fit g) (listed_given g && (names_back g && contacts_fit g)) e))

-- ---- pairs, by number: the lower collider times 256, and the higher

abbrev pub place_number : List ℕ → ℕ → ℕ
place_number g p = pair_number (word_at g (contact_at g (listed_at g p))) (word_at g (contact_at g (listed_at g p) + 1))

pub number_below : (a b : ℕ) → a < colliders → b < colliders → pair_number a b < colliders * colliders
number_below a b h l = go (ltb a b)
  where
    go : (t : Bool) → cond t (a * colliders + b) (b * colliders + a) < colliders * colliders
    go true = omega arith
    go false = omega arith

number_is : (a b : ℕ) → pair_number a b ≡ min a b * colliders + max a b
number_is a b = go (ltb a b) refl
  where
    go : (t : Bool) → ltb a b ≡ t → cond t (a * colliders + b) (b * colliders + a) ≡ min a b * colliders + max a b
    go true e = let h = ltb-true a b e in omega arith
    go false e = let h = ltb-false a b e in omega arith

iff : (s t : Bool) → (s ≡ true → t ≡ true) → (t ≡ true → s ≡ true) → s ≡ t
iff true t f b = sym (f refl)
iff false true f b = b refl
iff false false f b = refl

same_cases : (a b c d : ℕ) → same_colliders a b c d ≡ true → ((a ≡ c) × (b ≡ d)) ⊎ ((a ≡ d) × (b ≡ c))
unfolding same_colliders
same_cases a b c d e = go (eqb a c) (eqb b d) (eqb a d) (eqb b c) refl refl refl refl e
  where
    swapped : (w x : Bool) → eqb a d ≡ w → eqb b c ≡ x → (w && x) ≡ true → ((a ≡ c) × (b ≡ d)) ⊎ ((a ≡ d) × (b ≡ c))
    swapped true true hw hx e = inr (eqb-true a d hw, eqb-true b c hx)
    swapped true false hw hx e = absurd (true≢false (sym e))
    swapped false x hw hx e = absurd (true≢false (sym e))

    go : (u v w x : Bool) → eqb a c ≡ u → eqb b d ≡ v → eqb a d ≡ w → eqb b c ≡ x → ((u && v) || (w && x)) ≡ true → ((a ≡ c) × (b ≡ d)) ⊎ ((a ≡ d) × (b ≡ c))
    go true true w x hu hv hw hx e = inl (eqb-true a c hu, eqb-true b d hv)
    go true false w x hu hv hw hx e = swapped w x hw hx e
    go false v w x hu hv hw hx e = swapped w x hw hx e

same_straight : (a b : ℕ) → same_colliders a b a b ≡ true
unfolding same_colliders
same_straight a b = rw (eq-eqb a a refl, eq-eqb b b refl)

same_crossed : (a b : ℕ) → same_colliders a b b a ≡ true
unfolding same_colliders
same_crossed a b = rw (eq-eqb a a refl, eq-eqb b b refl) (or-true (eqb a b && eqb b a))

-- the number, from the two ids of the pair's key
pub number_of_ids : (a b : ℕ) {i : PairIds} → a < 2 ^ 32 → b < 2 ^ 32 → i ≡ ids_of (key_of a b) → i.lower * colliders + i.higher ≡ pair_number a b
number_of_ids a b h l e = ap (λ (p : PairIds). p.lower * colliders + p.higher) (e ∙ ids_of_key a b h l) ∙ sym (number_is a b)

-- two pairs have one key exactly if they are the same, in either order
module _ (a b c d : ℕ) (ha : a < 2 ^ 32) (hb : b < 2 ^ 32) (hc : c < 2 ^ 32) (hd : d < 2 ^ 32) where
  pub key_colliders : eqb (key_of a b) (key_of c d) ≡ same_colliders a b c d
  key_colliders = iff (eqb (key_of a b) (key_of c d)) (same_colliders a b c d) same one
    where
      one : same_colliders a b c d ≡ true → eqb (key_of a b) (key_of c d) ≡ true
      one e =
          eq-eqb (key_of a b) (key_of c d)
          (elim (same_cases a b c d e) [
            | inl s ↦ (λ i. key_of (s.0 i) (s.1 i))
            | inr s ↦ (λ i. key_of (s.0 i) (s.1 i)) ∙ key_order d c
          ])

      same : eqb (key_of a b) (key_of c d) ≡ true → same_colliders a b c d ≡ true
      same e =
          elim (key_same a b c d ha hb hc hd (eqb-true (key_of a b) (key_of c d) e)) [
            | inl s ↦ subst (λ (n : ℕ). same_colliders a b n d ≡ true) s.0 (subst (λ (n : ℕ). same_colliders a b a n ≡ true) s.1 (same_straight a b))
            | inr s ↦ subst (λ (n : ℕ). same_colliders a b c n ≡ true) s.0 (subst (λ (n : ℕ). same_colliders a b n a ≡ true) s.1 (same_crossed a b))
          ]

-- two pairs have one number exactly if they are the same, in either order
module _ (a b c d : ℕ) (ha : a < colliders) (hb : b < colliders) (hc : c < colliders) (hd : d < colliders) where
  pub number_same : same_colliders a b c d ≡ eqb (pair_number a b) (pair_number c d)
  number_same = iff (same_colliders a b c d) (eqb (pair_number a b) (pair_number c d)) one same
    where
      one : same_colliders a b c d ≡ true → eqb (pair_number a b) (pair_number c d) ≡ true
      one e =
          let p = number_is a b in
          let q = number_is c d in
          eq-eqb (pair_number a b) (pair_number c d)
          (elim (same_cases a b c d e) [
            | inl s ↦ omega (arith, s.0, s.1)
            | inr s ↦ omega (arith, s.0, s.1)
          ])

      split : min a b * colliders + max a b ≡ min c d * colliders + max c d → (t : Bool) → eqb a c ≡ t → same_colliders a b c d ≡ true
      split e true t =
          let p = eqb-true a c t in
          let q : b ≡ d = omega arith in
          subst (λ (n : ℕ). same_colliders a b n d ≡ true) p (subst (λ (n : ℕ). same_colliders a b a n ≡ true) q (same_straight a b))
      split e false t =
          let n = eqb-false a c t in
          let p : a ≡ d = omega arith in
          let q : b ≡ c = omega arith in
          subst (λ (n : ℕ). same_colliders a b n d ≡ true) q (subst (λ (n : ℕ). same_colliders a b b n ≡ true) p (same_crossed a b))

      same : eqb (pair_number a b) (pair_number c d) ≡ true → same_colliders a b c d ≡ true
      same e = split (sym (number_is a b) ∙ eqb-true (pair_number a b) (pair_number c d) e ∙ number_is c d) (eqb a c) refl

-- the same of two places of the list
pub place_same : (g : List ℕ) (p q : ℕ) → contacts_fit g ≡ true → p < listed_count g → q < listed_count g → same_pair g p q ≡ eqb (place_number g p) (place_number g q)
unfolding same_pair
place_same g p q e h l =
    let a = fitting g (contact_at g (listed_at g p)) (fits_at g p e h) in
    let b = fitting g (contact_at g (listed_at g q)) (fits_at g q e l) in
    number_same (word_at g (contact_at g (listed_at g p))) (word_at g (contact_at g (listed_at g p) + 1)) (word_at g (contact_at g (listed_at g q))) (word_at g (contact_at g (listed_at g q) + 1))
    a.collider1 a.collider2 b.collider1 b.collider2

-- no place before p has p's pair, exactly if the bit of its number is not set
pub pair_fresh : (g : List ℕ) (p : ℕ) {bits : List ℕ} → contacts_fit g ≡ true → p < listed_count g → Marked (place_number g) p bits → every (λ q. not (same_pair g q p)) p ≡ not (bit_at bits (place_number g p))
pair_fresh g p e h m =
    every_same (λ q. not (same_pair g q p)) (λ q. not (eqb (place_number g q) (place_number g p))) p (λ q l. ap not (place_same g q p e (omega arith) h))
    ∙ fresh (place_number g) p m

pub number_read : (g : List ℕ) (p : ℕ) {id at n : ℕ} → RecordAt g id at → id ≡ listed_at g p → n ≡ pair_number (word_at g at) (word_at g (at + 1)) → n ≡ place_number g p
number_read g p r e h = h ∙ ap (λ (a : ℕ). pair_number (word_at g a) (word_at g (a + 1))) (place_read g r p e)

pub place_below : (g : List ℕ) (p : ℕ) → contacts_fit g ≡ true → p < listed_count g → place_number g p < colliders * colliders
place_below g p e h =
    let a = fitting g (contact_at g (listed_at g p)) (fits_at g p e h) in
    number_below (word_at g (contact_at g (listed_at g p))) (word_at g (contact_at g (listed_at g p) + 1)) a.collider1 a.collider2

pub pair_fresh_at : (g : List ℕ) (p : ℕ) {bits : List ℕ} {n : ℕ} {r : Bool} → contacts_fit g ≡ true → p < listed_count g → Marked (place_number g) p bits → n ≡ place_number g p → r ≡ not (bit_at bits n) → every (λ q. not (same_pair g q p)) p ≡ r
pair_fresh_at g p {bits} e h m i s = pair_fresh g p e h m ∙ ap not (ap (bit_at bits) (sym i)) ∙ sym s
