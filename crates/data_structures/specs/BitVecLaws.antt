-- The laws of the bits of a list of words, for callers, with every definition shut. Assumes nothing.
use Rattle.std.specs.Prelude.{◌≡◌, refl, ◌≢◌, ℕ, zero, suc, ◌+◌, ◌*◌, ◌/◌, ◌%◌, ◌^◌, ◌≤◌, ◌<◌, Bool, true, false, cond, ◌||◌, List, [], ◌∷◌, eqb, ltb, length, get_or, take}
use Rattle.std.proofs.Common.{sym, ◌∙◌, subst, le_of_suc-le-suc, not-suc-le-zero, arith, true≢false, eq-eqb, ne_eqb, eqb-true, ltb-true, ltb-false, length-set, get_or-set_same, get_or-set_other, get_or-take}
use Rattle.std.proofs.Math.Path.{ap}
use Rattle.std.proofs.Math.Bool.{or-true, or-false}
use Rattle.std.proofs.lemmas.Bool.{eqb-false}
use Rattle.std.specs.Int.Bits.{bit_or, or_zero_r}
use Rattle.std.proofs.lemmas.List.{length-map}
use Rattle.std.proofs.Math.ListN.{get_or-map, get_or-eq_default}
use Rattle.rows.specs.Rows.{part}
use Rattle.rows.specs.Laws.{length_put, part_put}
use Rattle.rows.specs.Slots.{Listed, Distinct, AllBelow}
use Rattle.data_structures.specs.BitVec.{blocks_of, bit_of, bit_at, cleared, marked, joined, numbers_with, set_bits, Visited}
use Rattle.data_structures.specs.NumberLaws.{Ascending, numbers_same, numbers_length, numbers_none, numbers_pass, numbers_listed, numbers_ascending}
use Rattle.data_structures.specs.WordLaws.{bit_zero, bit_or_lem, bit_power}

-- ---- lengths

-- the words hold the bits, and one word less would not
pub blocks_hold : (bits : ℕ) → (bits ≤ 64 * blocks_of bits) × (64 * blocks_of bits < bits + 64)
unfolding blocks_of
blocks_hold bits = (omega arith, omega arith)

pub length_cleared : (xs : List ℕ) → length (cleared xs) ≡ length xs
unfolding cleared
length_cleared xs = length-map xs (λ x. 0)

pub length_marked : (xs : List ℕ) (i : ℕ) → length (marked xs i) ≡ length xs
unfolding marked
length_marked xs i = simp length-set

pub length_joined : (xs ys : List ℕ) → length ys ≤ length xs → length (joined xs ys) ≡ length xs
unfolding joined
length_joined [] [] h = refl
length_joined [] (y ∷ ys) h = absurd (not-suc-le-zero h)
length_joined (x ∷ xs) [] h = refl
length_joined (x ∷ xs) (y ∷ ys) h = ap suc (length_joined xs ys (le_of_suc-le-suc h))

-- ---- a bit

pub bit_past : (xs : List ℕ) (n : ℕ) → 64 * length xs ≤ n → bit_at xs n ≡ false
unfolding bit_at
bit_past xs n h = ap (λ (w : ℕ). bit_of w (n % 64)) (get_or-eq_default xs 0 (omega arith)) ∙ bit_zero (n % 64)

pub bit_cleared : (xs : List ℕ) (j : ℕ) → bit_at (cleared xs) j ≡ false
unfolding bit_at cleared
bit_cleared xs j = ap (λ (w : ℕ). bit_of w (j % 64)) (get_or-map (λ x. 0) xs (j / 64) 0) ∙ bit_zero (j % 64)

word_joined : (xs ys : List ℕ) (i : ℕ) → get_or (joined xs ys) i 0 ≡ bit_or (get_or xs i 0) (get_or ys i 0)
unfolding joined
word_joined [] ys i = refl
word_joined (x ∷ xs) [] i = sym (or_zero_r (get_or (x ∷ xs) i 0))
word_joined (x ∷ xs) (y ∷ ys) zero = refl
word_joined (x ∷ xs) (y ∷ ys) (suc i) = word_joined xs ys i

pub bit_joined : (xs ys : List ℕ) (j : ℕ) → bit_at (joined xs ys) j ≡ (bit_at xs j || bit_at ys j)
unfolding bit_at
bit_joined xs ys j = ap (λ (w : ℕ). bit_of w (j % 64)) (word_joined xs ys (j / 64)) ∙ bit_or_lem (get_or xs (j / 64) 0) (get_or ys (j / 64) 0) (j % 64)

-- the word that holds bit i, once it is set
word_marked : (xs : List ℕ) (i : ℕ) → i < 64 * length xs → get_or (marked xs i) (i / 64) 0 ≡ bit_or (get_or xs (i / 64) 0) (2 ^ (i % 64))
unfolding marked
word_marked xs i h = get_or-set_same xs (i / 64) (bit_or (get_or xs (i / 64) 0) (2 ^ (i % 64))) 0 (omega arith)

-- and bit k of it
part_marked : (xs : List ℕ) (i k : ℕ) → i < 64 * length xs → bit_of (get_or (marked xs i) (i / 64) 0) k ≡ (bit_of (get_or xs (i / 64) 0) k || eqb (i % 64) k)
part_marked xs i k h =
    ap (λ (w : ℕ). bit_of w k) (word_marked xs i h) ∙ bit_or_lem (get_or xs (i / 64) 0) (2 ^ (i % 64)) k ∙ ap (λ (b : Bool). bit_of (get_or xs (i / 64) 0) k || b) (bit_power (i % 64) k)

pub bit_marked_same : (xs : List ℕ) (i : ℕ) → i < 64 * length xs → bit_at (marked xs i) i ≡ true
unfolding bit_at
bit_marked_same xs i h = part_marked xs i (i % 64) h ∙ rw (eq-eqb (i % 64) (i % 64) refl) (or-true (bit_of (get_or xs (i / 64) 0) (i % 64)))

word_kept : (xs : List ℕ) (i j : ℕ) → j / 64 ≢ i / 64 → get_or (marked xs i) (j / 64) 0 ≡ get_or xs (j / 64) 0
unfolding marked
word_kept xs i j n = get_or-set_other xs (i / 64) (j / 64) (bit_or (get_or xs (i / 64) 0) (2 ^ (i % 64))) 0 n

pub bit_marked_other : (xs : List ℕ) (i j : ℕ) → i < 64 * length xs → i ≢ j → bit_at (marked xs i) j ≡ bit_at xs j
unfolding bit_at
bit_marked_other xs i j h n = go (eqb (i / 64) (j / 64)) refl
  where
    go : (b : Bool) → eqb (i / 64) (j / 64) ≡ b → bit_of (get_or (marked xs i) (j / 64) 0) (j % 64) ≡ bit_of (get_or xs (j / 64) 0) (j % 64)
    go true e =
        let q = eqb-true (i / 64) (j / 64) e in
        let r = ne_eqb (i % 64) (j % 64) (λ m. n (omega arith)) in
        subst (λ (w : ℕ). bit_of (get_or (marked xs i) w 0) (j % 64) ≡ bit_of (get_or xs w 0) (j % 64)) q
        (part_marked xs i (j % 64) h ∙ rw r (or-false (bit_of (get_or xs (i / 64) 0) (j % 64))))
    go false e = ap (λ (w : ℕ). bit_of w (j % 64)) (word_kept xs i j (λ q. eqb-false (i / 64) (j / 64) e (sym q)))

pub bit_marked : (xs : List ℕ) (i j : ℕ) → i < 64 * length xs → bit_at (marked xs i) j ≡ cond (eqb i j) true (bit_at xs j)
bit_marked xs i j h = go (eqb i j) refl
  where
    go : (b : Bool) → eqb i j ≡ b → bit_at (marked xs i) j ≡ cond b true (bit_at xs j)
    go true e = ap (bit_at (marked xs i)) (sym (eqb-true i j e)) ∙ bit_marked_same xs i h
    go false e = bit_marked_other xs i j h (eqb-false i j e)

-- ---- the set bits: exactly these, ascending, each once

pub set_listed : (xs : List ℕ) (n : ℕ) → bit_at xs n ≡ true → Listed (set_bits xs) n
unfolding set_bits
set_listed xs n t = go (ltb n (64 * length xs)) refl
  where
    go : (b : Bool) → ltb n (64 * length xs) ≡ b → Listed (set_bits xs) n
    go true e = numbers_listed (bit_at xs) 0 (64 * length xs) n t (omega arith) (omega (arith, ltb-true n (64 * length xs) e))
    go false e = absurd (true≢false (sym t ∙ bit_past xs n (ltb-false n (64 * length xs) e)))

pub listed_set : (xs : List ℕ) (n : ℕ) → Listed (set_bits xs) n → bit_at xs n ≡ true
unfolding set_bits
listed_set xs n m = (numbers_pass (bit_at xs) 0 (64 * length xs) n m).0

pub set_ascending : (xs : List ℕ) → Ascending (set_bits xs)
unfolding set_bits
set_ascending xs = numbers_ascending (bit_at xs) 0 (64 * length xs)

pub set_distinct : (xs : List ℕ) → Distinct (set_bits xs)
set_distinct xs j k h l e = omega (arith, set_ascending xs j k h l)

pub set_below : (xs : List ℕ) → AllBelow (64 * length xs) (set_bits xs)
unfolding set_bits
set_below xs k h = let p = numbers_pass (bit_at xs) 0 (64 * length xs) (get_or (set_bits xs) k 0) (k, h, refl) in omega arith

pub set_length : (xs : List ℕ) → length (set_bits xs) ≤ 64 * length xs
unfolding set_bits
set_length xs = numbers_length (bit_at xs) 0 (64 * length xs)

-- words with the same bits have the same set bits
pub set_same : (xs ys : List ℕ) → length xs ≡ length ys → ((n : ℕ) → bit_at xs n ≡ bit_at ys n) → set_bits xs ≡ set_bits ys
unfolding set_bits
set_same xs ys e h = ap (λ (k : ℕ). numbers_with (bit_at xs) 0 (64 * k)) e ∙ numbers_same (bit_at xs) (bit_at ys) 0 (64 * length ys) (λ n l u. h n)

pub set_cleared : (xs : List ℕ) → set_bits (cleared xs) ≡ []
unfolding set_bits
set_cleared xs = numbers_none (bit_at (cleared xs)) 0 (64 * length (cleared xs)) (bit_cleared xs)

-- ---- after a visit

pub visited_length : {xs ids ids' : List ℕ} {r : ℕ} → Visited xs ids ids' r → length ids' ≡ length ids
visited_length {xs} {ids} v = ap length v.stored ∙ length_put ids 0 (set_bits xs)

module _ {xs ids ids' : List ℕ} {r : ℕ} (v : Visited xs ids ids' r) (room : 64 * length xs ≤ length ids) where
  -- the first r are the set bits
  pub visited_take : take r ids' ≡ set_bits xs
  unfolding part
  visited_take = ap (take r) v.stored ∙ part_put ids 0 (set_bits xs) r (sym v.count) (omega (arith, v.count, set_length xs))

  pub visited_at : (k : ℕ) → k < r → get_or ids' k 0 ≡ get_or (set_bits xs) k 0
  visited_at k h = sym (get_or-take r ids' k 0 h) ∙ ap (λ (ns : List ℕ). get_or ns k 0) visited_take
