-- A whole listing from what its lines read to: the cases of `read_listing`. Assumes nothing.
use Rattle.std.specs.Prelude.{◌≡◌, refl, ℕ, ◌≤◌, ◌<◌, List, length, take, drop, None, Some, Option, IsSome}
use Rattle.std.proofs.Common.{sym, ap, ◌∙◌, zero-add, arith, le-leb}
use Rattle.std.proofs.lemmas.Bool.{lt-leb}
use Rattle.rows.specs.Rows.{each}
use Rattle.rows.specs.Laws.{length_put}
use Rattle.text.specs.Text.{after}
use Rattle.prune_listing.specs.Listing.{normal_line, all_points, Listing, longest, listing}
use Rattle.prune_listing.specs.Answers.{room, normal_bytes, points_in, reading_of, points_of, ListingRead, count_from, stored_from}
use Rattle.prune_listing.specs.declared.reader.Header.{Header}

-- the listing of the normal and the points
abbrev whole : List ℕ → Option (List (List ℕ)) → Option Listing
whole v o = after o (λ points. Some (record { normal = v; points = points }))

unread : (xs row : List ℕ) → listing xs ≡ None → ListingRead xs row row None
unread xs row e = record { answer = sym (ap reading_of e); stored = sym (ap (points_of row) e) }

pub too_long : (xs row : List ℕ) → longest < length xs → ListingRead xs row row None
unfolding listing
too_long xs row h = unread xs row (rw (lt-leb (length xs) longest h))

module _ (xs row : List ℕ) (short : length xs ≤ longest) where
  pub no_normal : normal_line xs ≡ None → ListingRead xs row row None
  unfolding listing
  no_normal e = unread xs row (rw (le-leb (length xs) longest short, e))

  module _ (v : List ℕ) (normal : normal_line xs ≡ Some (record { value = v; rest = drop normal_bytes xs })) where
    lines_read : listing xs ≡ whole v (points_in xs)
    unfolding listing
    lines_read = rw (le-leb (length xs) longest short, normal)

    pub no_points : None ≡ count_from 0 (points_in xs) → ListingRead xs row row None
    no_points e = unread xs row (lines_read ∙ none_read (points_in xs) e)
      where
        none_read : (o : Option (List (List ℕ))) → None ≡ count_from 0 o → whole v o ≡ None
        none_read None e = refl
        none_read (Some points) e = let z : ◌≡◌ {A = ℕ} 0 1 = cc in absurd (omega arith)

    pub all_read : (row' : List ℕ) (n : ℕ) → Some n ≡ count_from 0 (points_in xs) → row' ≡ stored_from row 0 (points_in xs)
        → ListingRead xs row row' (Some (record { normal = v; count = n }))
    all_read row' n e s =
        let w = read (points_in xs) e s in
        record { answer = w.0 ∙ sym (ap reading_of lines_read); stored = w.1 ∙ sym (ap (points_of row) lines_read) }
      where
        read : (o : Option (List (List ℕ))) → Some n ≡ count_from 0 o → row' ≡ stored_from row 0 o
            → (Some (record { normal = v; count = n }) ≡ reading_of (whole v o)) × (row' ≡ points_of row (whole v o))
        read None e s = let z : ◌≡◌ {A = ℕ} 0 1 = cc in absurd (omega arith)
        read (Some points) e s =
            let l : n ≡ length points = cc (zero-add (length points)) in
            (ap (λ (k : ℕ). Some (record { normal = v; count = k })) l, s)

-- the points that were counted are there
pub points_there : (xs : List ℕ) (n : ℕ) → Some n ≡ count_from 0 (all_points xs) → IsSome (all_points xs)
points_there xs n e = there (all_points xs) e
  where
    there : (o : Option (List (List ℕ))) → Some n ≡ count_from 0 o → IsSome o
    there None e = let z : ◌≡◌ {A = ℕ} 0 1 = cc in absurd (omega arith)
    there (Some points) e = refl

-- the row keeps its length
pub read_length : (xs row row' : List ℕ) (r : Option Header) → ListingRead xs row row' r → length row' ≡ length row
read_length xs row row' r w = ap length w.stored ∙ kept (listing xs)
  where
    kept : (o : Option Listing) → length (points_of row o) ≡ length row
    kept None = refl
    kept (Some l) = length_put row 0 (each (λ words. words) (take room l.points))

-- the promise determines the answer and every lent word
pub read_listing_determined : (text row : List ℕ) {row' row'' : List ℕ} {r r' : Option Header} → ListingRead text row row' r → ListingRead text row row'' r' → (r' ≡ r) × (row'' ≡ row')
read_listing_determined text row p q = (q.answer ∙ sym p.answer, q.stored ∙ sym p.stored)
