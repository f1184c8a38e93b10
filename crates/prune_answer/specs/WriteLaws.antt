-- Lines written one after another, and numbers below a bound. Assumes nothing.
use Rattle.std.specs.Prelude.{◌≡◌, refl, ℕ, zero, suc, ◌+◌, ◌*◌, ◌≤◌, ◌<◌, List, [], ◌∷◌, ◌++◌, length, get_or, take}
use Rattle.std.proofs.Common.{ap, ◌∙◌, le_of_suc-le-suc, not-suc-le-zero, add-one, arith, append-nil, length-append, take-suc, take_all}
use Rattle.rows.specs.Rows.{put, each}
use Rattle.rows.specs.Laws.{length_put}
use Rattle.rows.specs.EachLaws.{each_append}
use Rattle.prune_listing.specs.Lines.{decimal, kept_line}
use Rattle.text.specs.Text.{Written}
use Rattle.text.specs.WrittenLaws.{written_then}
use Rattle.prune_listing.specs.LinesLaws.{decimal_short}
use Rattle.prune_answer.specs.Answer.{Below}

-- ---- numbers below a bound

pub below_at : (n : ℕ) (xs : List ℕ) (k : ℕ) → Below n xs → k < length xs → get_or xs k 0 < n
below_at n [] k b h = absurd (not-suc-le-zero h)
below_at n (x ∷ xs) zero b h = b.0
below_at n (x ∷ xs) (suc k) b h = below_at n xs k b.1 (le_of_suc-le-suc h)

pub below_append : (n : ℕ) (xs ys : List ℕ) → Below n xs → Below n ys → Below n (xs ++ ys)
below_append n [] ys b c = c
below_append n (x ∷ xs) ys b c = (b.0, below_append n xs ys b.1 c)

pub below_more : (n m : ℕ) (xs : List ℕ) → n ≤ m → Below n xs → Below m xs
below_more n m [] h b = tt
below_more n m (x ∷ xs) h b = (omega (arith, b.0), below_more n m xs h b.1)

-- ---- lines

-- the lines of k of the numbers are written
pub record LinesTo (before numbers out : List ℕ) (at k : ℕ) : Type 0 where
  pub inside : k ≤ length numbers
  pub size : length out ≡ length before
  pub short : at ≤ 6 * k
  pub written : Written before 0 (each kept_line (take k numbers)) out at

pub lines_none : (out numbers : List ℕ) → LinesTo out numbers out 0 0
unfolding put
lines_none out numbers = record { inside = omega arith; size = refl; short = omega arith; written = record { count = refl; stored = refl } }

module _ (before numbers out : List ℕ) (at k : ℕ) (so_far : LinesTo before numbers out at k) where
  pub lines_next : {out' : List ℕ} {at' : ℕ} → k < length numbers → Written out at (kept_line (get_or numbers k 0)) out' at' → LinesTo before numbers out' at' (k + 1)
  lines_next {out'} {at'} h w =
      let n = get_or numbers k 0 in
      let now = each kept_line (take k numbers) in
      let e : each kept_line (take (k + 1) numbers) ≡ now ++ kept_line n =
      ap (λ (m : ℕ). each kept_line (take m numbers)) (add-one k) ∙ ap (each kept_line) (take-suc numbers k 0 h) ∙ each_append kept_line (take k numbers) (n ∷ [])
      ∙ ap (λ (bs : List ℕ). now ++ bs) (append-nil (kept_line n)) in
      record {
        inside = omega (arith, h);
        size = ap length w.stored ∙ length_put out at (kept_line n) ∙ so_far.size;
        short = omega (arith, w.count, decimal_short n, length-append (decimal n) (10 ∷ []), so_far.short);
        written = rw e (written_then now (kept_line n) so_far.written w);
      }

  -- there is room for one more line, and its number has three digits at most
  pub next_fits : k < length numbers → 6 * length numbers ≤ length before → Below 1000 numbers → (get_or numbers k 0 < 1000) × (at + 6 ≤ length out)
  next_fits h room small = (below_at 1000 numbers k small h, omega (arith, h, room, so_far.short, so_far.size))

  pub lines_all : length numbers ≤ k → Written before 0 (each kept_line numbers) out at
  lines_all h = rw (take_all k numbers h) at so_far.written
