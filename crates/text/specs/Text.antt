-- Words and numbers at the front of a text. A text is its bytes; whatever is not of the form reads to `None`. Definitions only.
use Rattle.std.specs.Prelude.{ℕ, zero, suc, ◌+◌, ◌-◌, ◌*◌, ◌/◌, ◌%◌, ◌^◌, ◌≡◌, Bool, true, false, cond, ◌&&◌, List, [], ◌∷◌, leb, eqb, ltb, length, Option, None, Some}
use Rattle.rows.specs.Rows.{put}

-- what was read off the front of a text, and what is left of it
pub record Taken (A : Type 0) : Type 0 where
  pub value : A
  pub rest : List ℕ

-- one reading after another: none where either is
abbrev pub after : {A B : Type 0} → Option A → (A → Option B) → Option B
after None f = None
after (Some a) f = f a

-- the first byte is b, and what follows is read by f
unfoldable pub expect : {A : Type 0} → ℕ → (List ℕ → Option A) → List ℕ → Option A
expect b f [] = None
expect b f (x ∷ xs) = cond (eqb x b) (f xs) None

abbrev pub within : ℕ → ℕ → ℕ → Bool
within low high b = leb low b && leb b high

-- the bytes that part fields and end lines
abbrev pub tab : ℕ
tab = 9

abbrev pub line_feed : ℕ
line_feed = 10

-- ---- a 32-bit word in hexadecimal

-- the value of 0 to 9, A to F, a to f
unfoldable pub hex_digit : ℕ → Option ℕ
hex_digit b = cond (within 48 57 b) (Some (b - 48)) (cond (within 65 70 b) (Some (b - 65 + 10)) (cond (within 97 102 b) (Some (b - 97 + 10)) None))

-- n more digits of a number whose digits up to here make v
unfoldable pub digits : ℕ → ℕ → List ℕ → Option (Taken ℕ)
digits zero v xs = Some (record { value = v; rest = xs })
digits (suc n) v [] = None
digits (suc n) v (x ∷ xs) = after (hex_digit x) (λ d. digits n (v * 16 + d) xs)

-- eight digits
unfoldable pub word : List ℕ → Option (Taken ℕ)
word xs = digits 8 0 xs

-- ---- a whole number in decimal

abbrev pub largest_number : ℕ
largest_number = 4294967295

-- all digits that follow, of a number whose digits up to here, if any, make v; none where there is none, or where the value is too large
unfoldable pub decimal_from : Bool → ℕ → List ℕ → Option (Taken ℕ)
decimal_from any v [] = cond any (Some (record { value = v; rest = [] })) None
decimal_from any v (x ∷ xs) =
    cond (within 48 57 x)
    (cond (leb (v * 10 + (x - 48)) largest_number) (decimal_from true (v * 10 + (x - 48)) xs) None)
    (cond any (Some (record { value = v; rest = x ∷ xs })) None)

unfoldable pub decimal : List ℕ → Option (Taken ℕ)
decimal xs = decimal_from false 0 xs

-- ---- written

-- the digits of n before a tail, with no zero in front; n has at most suc f digits
unfoldable pub digits_before : ℕ → ℕ → List ℕ → List ℕ
digits_before zero n tail = (48 + n) ∷ tail
digits_before (suc f) n tail = cond (ltb n 10) ((48 + n) ∷ tail) (digits_before f (n / 10) ((48 + n % 10) ∷ tail))

-- the digits of a number of 32 bits
unfoldable pub decimal_text : ℕ → List ℕ
decimal_text n = digits_before 9 n []

-- places that are written from are below this
abbrev pub last_place : ℕ
last_place = 2 ^ 62

-- the bytes stand in out from place at, as far as it reaches; it was out and is out', and the place after them is r
pub record Written (out : List ℕ) (at : ℕ) (bytes out' : List ℕ) (r : ℕ) : Type 0 where
  pub count : r ≡ at + length bytes
  pub stored : out' ≡ put out at bytes
