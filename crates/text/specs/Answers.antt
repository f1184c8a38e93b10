-- What the code's answers say of a text. Definitions only.
use Rattle.std.specs.Prelude.{◌≡◌, ℕ, ◌+◌, ◌-◌, ◌*◌, ◌≤◌, ◌<◌, Bool, true, false, cond, List, leb, eqb, length, get_or, drop, None, Some, Option}
use Rattle.text.specs.declared.reader.Number.{Number}
use Rattle.text.specs.Text.{Taken, within, hex_digit, word, largest_number, decimal}

-- ---- `byte_is`: the promise

-- the byte b stands at a place
abbrev pub Stands : List ℕ → ℕ → ℕ → Type 0
Stands xs at b = (at < length xs) × (get_or xs at 0 ≡ b)

abbrev pub ByteIs : List ℕ → ℕ → ℕ → Bool → Type 0
ByteIs xs at b true = Stands xs at b
ByteIs xs at b false = Stands xs at b → ⊥

-- ---- `expect`: the promise

-- the place after the byte b, if it stands there
abbrev pub ByteRead : List ℕ → ℕ → ℕ → Option ℕ → Type 0
ByteRead xs at b (Some next) = Stands xs at b × (next ≡ at + 1)
ByteRead xs at b None = Stands xs at b → ⊥

-- ---- `read_word`: the promise

-- the value, if there is one, with what is left after it
abbrev pub taken_word : Option ℕ → List ℕ → Option (Taken ℕ)
taken_word (Some v) rest = Some (record { value = v; rest = rest })
taken_word None rest = None

abbrev pub WordInside : List ℕ → ℕ → Option ℕ → Type 0
WordInside xs at (Some v) = at + 8 ≤ length xs
WordInside xs at None = Unit {0}

-- the word at a place, if there is one
pub record WordRead (xs : List ℕ) (at : ℕ) (r : Option ℕ) : Type 0 where
  pub read : word (drop at xs) ≡ taken_word r (drop (at + 8) xs)
  pub inside : WordInside xs at r

-- ---- `read_decimal`: the promise

abbrev pub taken_number : Option Number → List ℕ → Option (Taken ℕ)
taken_number (Some n) xs = Some (record { value = n.value; rest = drop n.next xs })
taken_number None xs = None

abbrev pub NumberInside : List ℕ → ℕ → Option Number → Type 0
NumberInside xs at (Some n) = (at < n.next) × (n.next ≤ length xs)
NumberInside xs at None = Unit {0}

-- the number at a place, if there is one
pub record NumberRead (xs : List ℕ) (at : ℕ) (r : Option Number) : Type 0 where
  pub read : decimal (drop at xs) ≡ taken_number r xs
  pub inside : NumberInside xs at r

-- ---- their parts

abbrev pub value_of : Option ℕ → Option ℕ
value_of (Some v) = Some v
value_of None = None

abbrev pub Below : ℕ → Option ℕ → Type 0
Below n (Some v) = v < n
Below n None = Unit {0}

-- r is the value of the hexadecimal digit b, if it is one
pub record HexDigitRead (b : ℕ) (r : Option ℕ) : Type 0 where
  pub value : hex_digit b ≡ value_of r
  pub small : Below 16 r

-- r is the value of the decimal digit b, if it is one
abbrev pub DigitIs : ℕ → Option ℕ → Type 0
DigitIs b (Some d) = (within 48 57 b ≡ true) × (d ≡ b - 48) × (d < 10)
DigitIs b None = within 48 57 b ≡ false

pub record DigitRead (b : ℕ) (r : Option ℕ) : Type 0 where
  pub is : DigitIs b r

-- the value v with the digit d behind it, if it is not too large
abbrev pub NextIs : ℕ → ℕ → Option ℕ → Type 0
NextIs v d (Some n) = (leb (v * 10 + d) largest_number ≡ true) × (n ≡ v * 10 + d)
NextIs v d None = leb (v * 10 + d) largest_number ≡ false

pub record NextValue (v d : ℕ) (r : Option ℕ) : Type 0 where
  pub is : NextIs v d r

-- a number from place at to place i
abbrev pub ended_at : ℕ → ℕ → ℕ → Option Number
ended_at at i v = cond (eqb i at) None (Some (record { value = v; next = i }))
