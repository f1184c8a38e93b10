-- Bits of a list of 64-bit words. Definitions only; the laws are in `BitVecLaws`. From avian's bit_vec.rs.
use Rattle.std.specs.Prelude.{◌≡◌, ℕ, zero, suc, ◌+◌, ◌-◌, ◌*◌, ◌/◌, ◌%◌, ◌^◌, Bool, cond, List, [], ◌∷◌, map, eqb, length, get_or, set}
use Rattle.std.specs.Int.Bits.{bit_or}
use Rattle.rows.specs.Rows.{put}

-- how many words hold that many bits
unfoldable pub blocks_of : ℕ → ℕ
blocks_of bits = (bits + 63) / 64

-- bit k of one word
unfoldable pub bit_of : ℕ → ℕ → Bool
bit_of w k = eqb (w / 2 ^ k % 2) 1

-- bit n of the words; false past the end
unfoldable pub bit_at : List ℕ → ℕ → Bool
bit_at xs n = bit_of (get_or xs (n / 64) 0) (n % 64)

-- every word 0
unfoldable pub cleared : List ℕ → List ℕ
cleared xs = map (λ x. 0) xs

-- bit i set
unfoldable pub marked : List ℕ → ℕ → List ℕ
marked xs i = set xs (i / 64) (bit_or (get_or xs (i / 64) 0) (2 ^ (i % 64)))

-- word by word
unfoldable pub joined : List ℕ → List ℕ → List ℕ
joined [] ys = ys
joined (x ∷ xs) [] = x ∷ xs
joined (x ∷ xs) (y ∷ ys) = bit_or x y ∷ joined xs ys

-- of the k numbers from `from` on, those that f holds of, ascending
unfoldable pub numbers_with : (ℕ → Bool) → ℕ → ℕ → List ℕ
numbers_with f from zero = []
numbers_with f from (suc k) = cond (f from) (from ∷ numbers_with f (suc from) k) (numbers_with f (suc from) k)

-- the set bits of the words, ascending
unfoldable pub set_bits : List ℕ → List ℕ
set_bits xs = numbers_with (bit_at xs) 0 (64 * length xs)

-- the set bits of one word of that width, numbered from base
unfoldable pub word_bits : ℕ → ℕ → ℕ → List ℕ
word_bits width base w = numbers_with (λ n. bit_of w (n - base)) base width

-- the numbers are written to ids from place at: it is left as ids', and the place after them is r
pub record Written (ids : List ℕ) (at : ℕ) (numbers ids' : List ℕ) (r : ℕ) : Type 0 where
  pub count : r ≡ at + length numbers
  pub stored : ids' ≡ put ids at numbers

-- the set bits of the words are written to ids from its start: it is left as ids', and there are r
pub record Visited (xs ids ids' : List ℕ) (r : ℕ) : Type 0 where
  pub count : r ≡ length (set_bits xs)
  pub stored : ids' ≡ put ids 0 (set_bits xs)
