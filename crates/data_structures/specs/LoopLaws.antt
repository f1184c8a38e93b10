-- A turn of each loop over the words: of the visit, of `or`. Assumes nothing.
use Rattle.std.specs.Prelude.{◌≡◌, refl, ℕ, zero, suc, ◌+◌, ◌-◌, ◌*◌, ◌/◌, ◌%◌, ◌^◌, ◌<◌, List, [], ◌∷◌, ◌++◌, length, get_or, set, take}
use Rattle.std.proofs.Common.{sym, ap, ap₂, ◌∙◌, le_of_suc-le-suc, not-suc-le-zero, zero-add, add-one, arith, length-append}
use Rattle.std.specs.Int.Bits.{bit_and, bit_or}
use Rattle.std.specs.Int.Count.{count_trailing_zeros}
use Rattle.rows.specs.Rows.{put}
use Rattle.rows.specs.Laws.{put_append}
use Rattle.data_structures.specs.BitVec.{bit_of, bit_at, joined, numbers_with, word_bits, Written}
use Rattle.data_structures.specs.NumberLaws.{numbers_same, numbers_append}
use Rattle.data_structures.specs.WordLaws.{word_next}

-- ---- the visit

-- the lowest set bit of a word is written, and those of the word without it are left to write
pub visit_bit : (ids : List ℕ) (n base w : ℕ) → 0 < w → w < 2 ^ 64
    → put (set ids n (base + count_trailing_zeros 64 w)) (n + 1) (word_bits 64 base (bit_and w (w - 1))) ≡ put ids n (word_bits 64 base w)
unfolding put
visit_bit ids n base w p h = rw (add-one, word_next 64 base w p h)

-- the bits of the words before word i
abbrev pub bits_before : List ℕ → ℕ → List ℕ
bits_before xs i = numbers_with (bit_at xs) 0 (64 * i)

bits_next : (xs : List ℕ) (i : ℕ) → bits_before xs (i + 1) ≡ bits_before xs i ++ word_bits 64 (64 * i) (get_or xs i 0)
unfolding bit_at word_bits
bits_next xs i =
    let e : 64 * (i + 1) ≡ 64 * i + 64 = omega arith in
    ap (numbers_with (bit_at xs) 0) e ∙ numbers_append (bit_at xs) 0 (64 * i) 64
    ∙ ap (λ (n : ℕ). bits_before xs i ++ numbers_with (bit_at xs) n 64) (zero-add (64 * i))
    ∙ ap (λ (ns : List ℕ). bits_before xs i ++ ns)
    (numbers_same (bit_at xs) (λ n. bit_of (get_or xs i 0) (n - 64 * i)) (64 * i) 64 (λ n l u.
    let q : n / 64 ≡ i = omega arith in
    let r : n % 64 ≡ n - 64 * i = omega arith in
    ap₂ (λ (a b : ℕ). bit_of (get_or xs a 0) b) q r))

-- the bits of word i are written after those of the words before it
pub visit_word : (xs ids : List ℕ) (i : ℕ) {ys zs : List ℕ} {n m : ℕ} → Written ids 0 (bits_before xs i) ys n → Written ys n (word_bits 64 (64 * i) (get_or xs i 0)) zs m
    → Written ids 0 (bits_before xs (i + 1)) zs m
visit_word xs ids i {ys} {zs} {n} {m} u v =
    let ns = bits_before xs i in
    let ms = word_bits 64 (64 * i) (get_or xs i 0) in
    let e = bits_next xs i in
    record {
      count = omega (arith, u.count, v.count, ap length e ∙ length-append ns ms);
      stored = v.stored ∙ ap₂ (λ (l : List ℕ) (k : ℕ). put l k ms) u.stored u.count ∙ sym (put_append ids 0 ns ms) ∙ ap (put ids 0) (sym e);
    }

-- ---- `or`

pub joined_none : (xs : List ℕ) → xs ≡ joined xs []
unfolding joined
joined_none [] = refl
joined_none (x ∷ xs) = refl

join_word : (xs ys : List ℕ) (k : ℕ) → k < length xs → k < length ys → set (joined xs (take k ys)) k (bit_or (get_or (joined xs (take k ys)) k 0) (get_or ys k 0)) ≡ joined xs (take (suc k) ys)
unfolding joined
join_word [] ys k h l = absurd (not-suc-le-zero h)
join_word (x ∷ xs) [] k h l = absurd (not-suc-le-zero l)
join_word (x ∷ xs) (y ∷ ys) zero h l = ap (λ (zs : List ℕ). bit_or x y ∷ zs) (joined_none xs)
join_word (x ∷ xs) (y ∷ ys) (suc k) h l = ap (λ (zs : List ℕ). bit_or x y ∷ zs) (join_word xs ys k (le_of_suc-le-suc h) (le_of_suc-le-suc l))

-- the words before word k are joined, and it is
pub join_step : (xs ys : List ℕ) (k : ℕ) {zs : List ℕ} → zs ≡ joined xs (take k ys) → k < length xs → k < length ys
    → set zs k (bit_or (get_or zs k 0) (get_or ys k 0)) ≡ joined xs (take (k + 1) ys)
join_step xs ys k e h l = ap (λ (zs : List ℕ). set zs k (bit_or (get_or zs k 0) (get_or ys k 0))) e ∙ join_word xs ys k h l ∙ ap (λ (n : ℕ). joined xs (take n ys)) (sym (add-one k))
