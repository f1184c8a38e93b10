-- Lines at a place of a text. Assumes nothing.
use Rattle.std.specs.Prelude.{◌≡◌, refl, ℕ, zero, suc, ◌+◌, ◌-◌, ◌*◌, ◌≤◌, ◌<◌, Bool, true, false, List, [], ◌∷◌, ◌++◌, length, take, drop, set, Option, None, Some}
use Rattle.std.specs.Bool.{then_some}
use Rattle.std.proofs.Common.{sym, ap, ◌∙◌, not-suc-le-zero, zero-add, add-zero, suc-add, add-one, arith, length-set, take-suc, take_all, get_or-set_same, drop_of_length-le, drop-cons}
use Rattle.std.proofs.Math.Numerals.{unary_clauses}
use Rattle.std.proofs.Math.Seq.{take-set-le}
use Rattle.text.specs.Text.{Taken, after}
use Rattle.text.specs.Answers.{Stands, ByteRead}
use Rattle.text.specs.TextLaws.{expect_read, expect_not}
use Rattle.prune_listing.specs.Listing.{field, fields, line_end, line, point_line, at_end, point_lines}
use Rattle.prune_listing.specs.Answers.{line_bytes, point_bytes, taken_end, taken_words}

-- ---- fields

-- a word before those read, and one after them
abbrev before : ℕ → Taken (List ℕ) → Taken (List ℕ)
before v others = record { value = v ∷ others.value; rest = others.rest }

abbrev behind : List ℕ → Taken ℕ → Taken (List ℕ)
behind front last = record { value = front ++ last.value ∷ []; rest = last.rest }

-- one field more, after those read
abbrev one_more : Taken (List ℕ) → Option (Taken (List ℕ))
one_more front = after (field front.rest) (λ last. Some (behind front.value last))

pub fields_last : (n : ℕ) (xs : List ℕ) → fields (suc n) xs ≡ after (fields n xs) one_more
unfolding fields
fields_last zero xs = refl
fields_last (suc n) xs = first_read (field xs) (fields_last n)
  where
    last_read : (v : ℕ) (front : List ℕ) (o : Option (Taken ℕ)) → after (after o (λ last. Some (behind front last))) (λ others. Some (before v others)) ≡ after o (λ last. Some (behind (v ∷ front) last))
    last_read v front None = refl
    last_read v front (Some last) = refl

    others_read : (v : ℕ) (o : Option (Taken (List ℕ))) → after (after o one_more) (λ others. Some (before v others)) ≡ after (after o (λ others. Some (before v others))) one_more
    others_read v None = refl
    others_read v (Some front) = last_read v front.value (field front.rest)

    first_read : (o : Option (Taken ℕ)) → ((ys : List ℕ) → fields (suc n) ys ≡ after (fields n ys) one_more)
        → after o (λ first. after (fields (suc n) first.rest) (λ others. Some (before first.value others)))
        ≡ after (after o (λ first. after (fields n first.rest) (λ others. Some (before first.value others)))) one_more
    first_read None h = refl
    first_read (Some first) h = ap (λ (r : Option (Taken (List ℕ))). after r (λ others. Some (before first.value others))) (h first.rest) ∙ others_read first.value (fields n first.rest)

-- what is not read stays unread with more fields
fields_none : (k j : ℕ) (xs : List ℕ) → fields k xs ≡ None → fields (j + k) xs ≡ None
fields_none k zero xs e = rw (zero-add k) e
fields_none k (suc j) xs e = rw (suc-add j k) (fields_last (j + k) xs ∙ rw (fields_none k j xs e))

-- k of n fields are read, and the first words are theirs
pub record FieldsTo (n : ℕ) (xs : List ℕ) (at : ℕ) (words : List ℕ) (k : ℕ) : Type 0 where
  pub some_left : k ≤ n
  pub size : length words ≡ n
  pub read : fields k (drop at xs) ≡ Some (record { value = take k words; rest = drop (at + 9 * k) xs })

pub fields_begin : (n : ℕ) (xs : List ℕ) (at : ℕ) (words : List ℕ) → length words ≡ n → FieldsTo n xs at words 0
unfolding fields
fields_begin n xs at words l = record { some_left = omega arith; size = l; read = ap (λ (m : ℕ). Some (record { value = []; rest = drop m xs })) (sym (add-zero at)) }

module _ (n : ℕ) (xs : List ℕ) (at : ℕ) (words : List ℕ) (k : ℕ) (w : FieldsTo n xs at words k) where
  one_read : fields (suc k) (drop at xs) ≡ after (field (drop (at + 9 * k) xs)) (λ last. Some (behind (take k words) last))
  one_read = fields_last k (drop at xs) ∙ rw w.read

  pub fields_stop : k < n → field (drop (at + 9 * k) xs) ≡ None → fields n (drop at xs) ≡ None
  fields_stop h e =
      let m : n - suc k + suc k ≡ n = omega arith in
      rw m at (fields_none (suc k) (n - suc k) (drop at xs) (one_read ∙ rw e))

  pub fields_next : (v : ℕ) → k < n → field (drop (at + 9 * k) xs) ≡ Some (record { value = v; rest = drop (at + 9 * k + 9) xs }) → FieldsTo n xs at (set words k v) (k + 1)
  fields_next v h e =
      let l : k < length words = omega (arith, w.size) in
      let m : at + 9 * k + 9 ≡ at + 9 * suc k = omega arith in
      let t : take (suc k) (set words k v) ≡ take k words ++ v ∷ [] = take-suc (set words k v) k 0 (omega (arith, l, length-set words k v)) ∙ rw (take-set-le k words k v (omega arith), get_or-set_same words k v 0 l) in
      record { some_left = omega arith; size = length-set words k v ∙ w.size; read = rw (add-one k) (one_read ∙ rw (e, m, t)) }

  pub fields_end : n ≤ k → fields n (drop at xs) ≡ Some (record { value = words; rest = drop (at + 9 * n) xs })
  fields_end h =
      let e : k ≡ n = omega (arith, w.some_left) in
      let t : take k words ≡ words = take_all k words (omega (arith, w.size)) in
      rw (← e, ← t) w.read

-- ---- a line

module _ (letter n : ℕ) (xs : List ℕ) (at : ℕ) where
  pub no_letter : (Stands xs at letter → ⊥) → line letter n (drop at xs) ≡ None
  unfolding line
  no_letter h = rw (expect_not letter (fields n) xs at h)

  module _ (start : ℕ) (s : ByteRead xs at letter (Some start)) where
    line_fields : line letter n (drop at xs) ≡ after (fields n (drop start xs)) (λ words. after (line_end words.rest) (λ rest. Some (record { value = words.value; rest = rest })))
    unfolding line
    line_fields = rw (expect_read letter (fields n) xs at start s)

    pub no_fields : fields n (drop start xs) ≡ None → line letter n (drop at xs) ≡ None
    no_fields e = line_fields ∙ rw e

    pub line_read : (words : List ℕ) (ends : Bool) → fields n (drop start xs) ≡ Some (record { value = words; rest = drop (start + 9 * n) xs })
        → line_end (drop (start + 9 * n) xs) ≡ taken_end ends (drop (start + 9 * n + 1) xs) → line letter n (drop at xs) ≡ taken_words (then_some ends words) (drop (at + line_bytes n) xs)
    line_read words ends e f =
        let m : start + 9 * n + 1 ≡ at + line_bytes n = omega (arith, s.1) in
        line_fields ∙ rw (e, f, m) (ended ends)
      where
        ended : (t : Bool) → after (taken_end t (drop (at + line_bytes n) xs)) (λ rest. Some (record { value = words; rest = rest })) ≡ taken_words (then_some t words) (drop (at + line_bytes n) xs)
        ended true = refl
        ended false = refl

-- ---- point lines

pub points_end : (m : ℕ) (xs : List ℕ) (at : ℕ) → length xs ≤ at → point_lines m (drop at xs) ≡ Some []
unfolding point_lines at_end
points_end zero xs at h = rw (drop_of_length-le xs h)
points_end (suc m) xs at h = rw (drop_of_length-le xs h)

-- a point before those read
abbrev pub first : List ℕ → Option (List (List ℕ)) → Option (List (List ℕ))
first p None = None
first p (Some others) = Some (p ∷ others)

lines_at : (m : ℕ) (xs : List ℕ) (at : ℕ) → 0 < m → at < length xs
    → point_lines m (drop at xs) ≡ after (point_line (drop at xs)) (λ line. after (point_lines (m - 1) line.rest) (λ others. Some (line.value ∷ others)))
unfolding point_lines at_end
lines_at zero xs at p h = absurd (not-suc-le-zero p)
lines_at (suc m) xs at p h = rw (drop-cons xs at 0 h) (simp unary_clauses)

pub points_bad : (m : ℕ) (xs : List ℕ) (at : ℕ) → 0 < m → at < length xs → point_line (drop at xs) ≡ None → point_lines m (drop at xs) ≡ None
points_bad m xs at p h e = lines_at m xs at p h ∙ rw e

pub points_next : (m : ℕ) (xs : List ℕ) (at : ℕ) (p : List ℕ) → 0 < m → at < length xs → point_line (drop at xs) ≡ Some (record { value = p; rest = drop (at + point_bytes) xs })
    → point_lines m (drop at xs) ≡ first p (point_lines (m - 1) (drop (at + point_bytes) xs))
points_next m xs at p l h e = lines_at m xs at l h ∙ rw e (joined (point_lines (m - 1) (drop (at + point_bytes) xs)))
  where
    joined : (o : Option (List (List ℕ))) → after o (λ others. Some (p ∷ others)) ≡ first p o
    joined None = refl
    joined (Some others) = refl

-- ---- for the search, by function

pub ruleset field_laws = (fields_stop, fields_end)

pub ruleset line_laws = (no_letter, no_fields, line_read)
