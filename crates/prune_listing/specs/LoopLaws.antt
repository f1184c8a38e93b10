-- A turn of each loop over the point lines: the one that counts them, and the one that stores them. Assumes nothing.
use Rattle.std.specs.Prelude.{◌≡◌, refl, ℕ, suc, ◌+◌, ◌-◌, ◌*◌, ◌≤◌, ◌<◌, Bool, true, false, ltb, List, ◌∷◌, length, take, drop, None, Some, Option, IsSome}
use Rattle.std.proofs.Common.{sym, ap, ◌∙◌, subst, add-zero, arith, ltb-true, ltb-false, length-drop}
use Rattle.std.proofs.Math.Seq.{take-nil}
use Rattle.rows.specs.Rows.{put, each}
use Rattle.rows.specs.Laws.{put_next}
use Rattle.text.specs.TextLaws.{expect_end}
use Rattle.prune_listing.specs.Listing.{fields, line, point_line, point_lines, all_points}
use Rattle.prune_listing.specs.Answers.{normal_bytes, point_bytes, points_in, taken_words, count_from, stored_from, room}
use Rattle.prune_listing.specs.LineLaws.{first, points_end, points_bad, points_next}

-- where line n of a text begins behind the first
abbrev pub begins : ℕ → ℕ
begins n = normal_bytes + point_bytes * n

-- what is left to read there
abbrev pub left : List ℕ → ℕ → Option (List (List ℕ))
left xs n = point_lines (length (drop normal_bytes xs) - n) (drop (begins n) xs)

-- the line there, if it is one
abbrev pub LineIs : List ℕ → ℕ → Option (List ℕ) → Type 0
LineIs xs n r = line 80 4 (drop (begins n) xs) ≡ taken_words r (drop (begins n + point_bytes) xs)

left_all : (xs : List ℕ) → points_in xs ≡ left xs 0
unfolding all_points
left_all xs =
    let e : length (drop normal_bytes xs) ≡ length (drop normal_bytes xs) - 0 = omega arith in
    ap (λ (m : ℕ). point_lines m (drop normal_bytes xs)) e

lines_left : (xs : List ℕ) (n : ℕ) → begins n < length xs → 0 < length (drop normal_bytes xs) - n
lines_left xs n h = omega (arith, length-drop normal_bytes xs)

left_bad : (xs : List ℕ) (n : ℕ) → begins n < length xs → LineIs xs n None → left xs n ≡ None
unfolding point_line
left_bad xs n h e = points_bad (length (drop normal_bytes xs) - n) xs (begins n) (lines_left xs n h) h e

left_next : (xs : List ℕ) (n : ℕ) (p : List ℕ) → begins n < length xs → LineIs xs n (Some p) → left xs n ≡ first p (left xs (n + 1))
unfolding point_line
left_next xs n p h e =
    let m : length (drop normal_bytes xs) - n - 1 ≡ length (drop normal_bytes xs) - (n + 1) = omega arith in
    let b : begins n + point_bytes ≡ begins (n + 1) = omega arith in
    points_next (length (drop normal_bytes xs) - n) xs (begins n) p (lines_left xs n h) h e ∙ rw (m, b)

-- ---- counting: n lines are counted

abbrev pub Counted : List ℕ → ℕ → Type 0
Counted xs n = count_from 0 (points_in xs) ≡ count_from n (left xs n)

pub count_none : (xs : List ℕ) → Counted xs 0
count_none xs = ap (count_from 0) (left_all xs)

pub count_bad : (xs : List ℕ) (n : ℕ) → Counted xs n → begins n < length xs → LineIs xs n None → None ≡ count_from 0 (points_in xs)
count_bad xs n c h e = sym (c ∙ ap (count_from n) (left_bad xs n h e))

pub count_next : (xs : List ℕ) (n : ℕ) (p : List ℕ) → Counted xs n → begins n < length xs → LineIs xs n (Some p) → Counted xs (n + 1)
count_next xs n p c h e = c ∙ ap (count_from n) (left_next xs n p h e) ∙ more (left xs (n + 1))
  where
    more : (o : Option (List (List ℕ))) → count_from n (first p o) ≡ count_from (n + 1) o
    more None = refl
    more (Some others) = let s : n + suc (length others) ≡ n + 1 + length others = omega arith in ap Some s

pub count_end : (xs : List ℕ) (n : ℕ) → Counted xs n → length xs ≤ begins n → Some n ≡ count_from 0 (points_in xs)
count_end xs n c h = sym (c ∙ ap (count_from n) (points_end (length (drop normal_bytes xs) - n) xs (begins n) h) ∙ ap Some (add-zero n))

-- ---- storing: k points are stored, and the row was row₀

pub record Stored (xs row₀ : List ℕ) (k : ℕ) (row : List ℕ) : Type 0 where
  pub fits : k ≤ room
  pub some : IsSome (left xs k)
  pub stored : stored_from row₀ 0 (points_in xs) ≡ stored_from row k (left xs k)

pub store_none : (xs row : List ℕ) → IsSome (points_in xs) → Stored xs row 0 row
store_none xs row s = record { fits = omega arith; some = subst IsSome (left_all xs) s; stored = ap (stored_from row 0) (left_all xs) }

-- where no line is read, nothing is left
pub store_stop : (xs row₀ : List ℕ) (k : ℕ) (row : List ℕ) → Stored xs row₀ k row → LineIs xs k None → row ≡ stored_from row₀ 0 (points_in xs)
unfolding put
store_stop xs row₀ k row s e = by_length (ltb (begins k) (length xs)) (ltb-true (begins k) (length xs)) (ltb-false (begins k) (length xs))
  where
    none_left : IsSome {T = List (List ℕ)} None → row ≡ stored_from row₀ 0 (points_in xs)
    none_left i = let z : ◌≡◌ {A = ℕ} 0 1 = cc in absurd (omega arith)

    by_length : (t : Bool) → (t ≡ true → begins k < length xs) → (t ≡ false → length xs ≤ begins k) → row ≡ stored_from row₀ 0 (points_in xs)
    by_length true l g = none_left (subst IsSome (left_bad xs k (l refl) e) s.some)
    by_length false l g =
        sym (s.stored ∙ ap (stored_from row k) (points_end (length (drop normal_bytes xs) - k) xs (begins k) (g refl)) ∙ ap (λ (ps : List (List ℕ)). put row (4 * k) (each (λ words. words) ps)) (take-nil (room - k)))

-- no line is read past the end
inside : (xs : List ℕ) (k : ℕ) (p : List ℕ) → LineIs xs k (Some p) → begins k < length xs
unfolding line
inside xs k p e = by_length (ltb (begins k) (length xs)) (ltb-true (begins k) (length xs)) (ltb-false (begins k) (length xs))
  where
    by_length : (t : Bool) → (t ≡ true → begins k < length xs) → (t ≡ false → length xs ≤ begins k) → begins k < length xs
    by_length true l g = l refl
    by_length false l g =
        let none : line 80 4 (drop (begins k) xs) ≡ None = rw (expect_end 80 (fields 4) xs (begins k) (g refl)) in
        let z : ◌≡◌ {A = ℕ} 0 1 = cc in
        absurd (omega arith)

pub store_next : (xs row₀ : List ℕ) (k : ℕ) (row p row' : List ℕ) → Stored xs row₀ k row → k < room → LineIs xs k (Some p) → length p ≡ 4 → row' ≡ put row (4 * k) p
    → Stored xs row₀ (k + 1) row'
store_next xs row₀ k row p row' s l e four w =
    let n = left_next xs k p (inside xs k p e) e in
    let m = more (left xs (k + 1)) (subst IsSome n s.some) in
    record {
      fits = omega arith;
      some = m.0;
      stored = s.stored ∙ ap (stored_from row k) n ∙ m.1 ∙ ap (λ (r : List ℕ). stored_from r (k + 1) (left xs (k + 1))) (sym w);
    }
  where
    more : (o : Option (List (List ℕ))) → IsSome (first p o) → IsSome o × (stored_from row k (first p o) ≡ stored_from (put row (4 * k) p) (k + 1) o)
    more None i = let z : ◌≡◌ {A = ℕ} 0 1 = cc in absurd (omega arith)
    more (Some others) i =
        let a : room - k ≡ suc (room - (k + 1)) = omega arith in
        let b : 4 * k + 4 ≡ 4 * (k + 1) = omega arith in (
          refl,
          ap (λ (n : ℕ). put row (4 * k) (each (λ words. words) (take n (p ∷ others)))) a
              ∙ sym (put_next row (4 * k) p (each (λ words. words) (take (room - (k + 1)) others)) 4 four)
              ∙ ap (λ (n : ℕ). put (put row (4 * k) p) n (each (λ words. words) (take (room - (k + 1)) others))) b,
        )

pub store_full : (xs row₀ : List ℕ) (k : ℕ) (row : List ℕ) → Stored xs row₀ k row → room ≤ k → row ≡ stored_from row₀ 0 (points_in xs)
unfolding put
store_full xs row₀ k row s h =
    let e : k ≡ room = omega (arith, s.fits) in
    sym (s.stored ∙ ap (λ (n : ℕ). stored_from row n (left xs k)) e ∙ full (left xs k))
  where
    full : (o : Option (List (List ℕ))) → stored_from row room o ≡ row
    full None = refl
    full (Some others) = refl

-- ---- for the search

pub ruleset count_laws = (count_bad, count_next, count_end)
