-- A listing's normal has three words, and each of its points four. Assumes nothing.
use Rattle.std.specs.Prelude.{◌≡◌, refl, ℕ, zero, suc, Bool, true, false, cond, List, [], ◌∷◌, leb, eqb, length, Option, None, Some}
use Rattle.std.proofs.Common.{ap, subst}
use Rattle.text.specs.Text.{Taken, after, expect}
use Rattle.prune_listing.specs.Listing.{field, fields, line_end, line, normal_line, point_line, at_end, point_lines, all_points, Listing, longest, listing}

-- what was read, if anything, has n words
abbrev Sized : ℕ → Option (Taken (List ℕ)) → Type 0
Sized n None = Unit {0}
Sized n (Some t) = length t.value ≡ n

fields_sized : (n : ℕ) (xs : List ℕ) → Sized n (fields n xs)
unfolding fields
fields_sized zero xs = refl
fields_sized (suc n) xs = first_sized (field xs) (fields_sized n)
  where
    others_sized : (v : ℕ) (o : Option (Taken (List ℕ))) → Sized n o → Sized (suc n) (after o (λ others. Some (record { value = v ∷ others.value; rest = others.rest })))
    others_sized v None s = tt
    others_sized v (Some others) s = ap suc s

    first_sized : (o : Option (Taken ℕ)) → ((ys : List ℕ) → Sized n (fields n ys))
        → Sized (suc n) (after o (λ first. after (fields n first.rest) (λ others. Some (record { value = first.value ∷ others.value; rest = others.rest }))))
    first_sized None h = tt
    first_sized (Some first) h = others_sized first.value (fields n first.rest) (h first.rest)

line_sized : (letter n : ℕ) (xs : List ℕ) → Sized n (line letter n xs)
unfolding line expect
line_sized letter n xs = words_sized (expect letter (fields n) xs) (expect_sized xs)
  where
    picked : (t : Bool) (o : Option (Taken (List ℕ))) → Sized n o → Sized n (cond t o None)
    picked true o s = s
    picked false o s = tt

    expect_sized : (ys : List ℕ) → Sized n (expect letter (fields n) ys)
    expect_sized [] = tt
    expect_sized (y ∷ ys) = picked (eqb y letter) (fields n ys) (fields_sized n ys)

    end_sized : (words : List ℕ) (o : Option (List ℕ)) → length words ≡ n → Sized n (after o (λ rest. Some (record { value = words; rest = rest })))
    end_sized words None s = tt
    end_sized words (Some rest) s = s

    words_sized : (o : Option (Taken (List ℕ))) → Sized n o → Sized n (after o (λ words. after (line_end words.rest) (λ rest. Some (record { value = words.value; rest = rest }))))
    words_sized None s = tt
    words_sized (Some words) s = end_sized words.value (line_end words.rest) s

-- each list has four words
abbrev pub Fours : List (List ℕ) → Type 0
Fours [] = Unit {0}
Fours (p ∷ ps) = (length p ≡ 4) × Fours ps

abbrev AllFour : Option (List (List ℕ)) → Type 0
AllFour None = Unit {0}
AllFour (Some ps) = Fours ps

points_four : (most : ℕ) (xs : List ℕ) → AllFour (point_lines most xs)
unfolding point_lines at_end point_line
points_four zero [] = tt
points_four zero (x ∷ xs) = tt
points_four (suc most) [] = tt
points_four (suc most) (x ∷ xs) = first_four (line 80 4 (x ∷ xs)) (line_sized 80 4 (x ∷ xs)) (points_four most)
  where
    others_four : (p : List ℕ) (o : Option (List (List ℕ))) → length p ≡ 4 → AllFour o → AllFour (after o (λ others. Some (p ∷ others)))
    others_four p None s f = tt
    others_four p (Some others) s f = (s, f)

    first_four : (o : Option (Taken (List ℕ))) → Sized 4 o → ((ys : List ℕ) → AllFour (point_lines most ys))
        → AllFour (after o (λ first. after (point_lines most first.rest) (λ others. Some (first.value ∷ others))))
    first_four None s h = tt
    first_four (Some first) s h = others_four first.value (point_lines most first.rest) s (h first.rest)

all_four : (xs : List ℕ) → AllFour (all_points xs)
unfolding all_points
all_four xs = points_four (length xs) xs

-- the listing after its first line
abbrev whole : Taken (List ℕ) → Option Listing
whole first = after (all_points first.rest) (λ points. Some (record { normal = first.value; points = points }))

-- a listing's words
pub record Shape (l : Listing) : Type 0 where
  pub three : length l.normal ≡ 3
  pub fours : Fours l.points

abbrev Shaped : Option Listing → Type 0
Shaped None = Unit {0}
Shaped (Some l) = Shape l

shaped : (xs : List ℕ) → Shaped (listing xs)
unfolding listing normal_line
shaped xs = picked (leb (length xs) longest) (after (line 78 3 xs) whole) (normal_shaped (line 78 3 xs) (line_sized 78 3 xs))
  where
    picked : (t : Bool) (o : Option Listing) → Shaped o → Shaped (cond t o None)
    picked true o s = s
    picked false o s = tt

    points_shaped : (words : List ℕ) (o : Option (List (List ℕ))) → length words ≡ 3 → AllFour o → Shaped (after o (λ points. Some (record { normal = words; points = points })))
    points_shaped words None s f = tt
    points_shaped words (Some points) s f = record { three = s; fours = f }

    normal_shaped : (o : Option (Taken (List ℕ))) → Sized 3 o → Shaped (after o whole)
    normal_shaped None s = tt
    normal_shaped (Some first) s = points_shaped first.value (all_points first.rest) s (all_four first.rest)

pub listing_shape : (xs : List ℕ) (l : Listing) → listing xs ≡ Some l → Shape l
listing_shape xs l e = subst Shaped e (shaped xs)
