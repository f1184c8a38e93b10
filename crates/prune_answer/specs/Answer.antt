-- The answer to a text: the specification, 'Prune listing' and 'Matching and pruning'. Definitions only.
use Rattle.std.specs.Prelude.{ℕ, ◌+◌, ◌≤◌, ◌<◌, ◌≡◌, cond, List, [], ◌∷◌, ltb, length, get_or, take, Option, None, Some}
use Rattle.rows.specs.Rows.{each}
use Rattle.words.specs.Words.{float_at, vec3_at}
use Rattle.rules.specs.Pruning.{PrunePoint, kept}
use Rattle.layout.specs.Prune.{prune_point_anchor1, prune_point_penetration}
use Rattle.rules.specs.Limits.{proposed_points, stored_points}
use Rattle.contact_types.specs.Prune.{Answer, refused, keeps}
use Rattle.prune_listing.specs.Listing.{Listing, listing}
use Rattle.prune_listing.specs.Lines.{kept_line, refused_line}
use Rattle.text.specs.Text.{Written}

-- a point of a listing: anchor 1, then penetration
abbrev pub point_of : List ℕ → PrunePoint
point_of words = record { anchor1 = vec3_at words prune_point_anchor1; penetration = float_at words prune_point_penetration }

-- refusal 1 if the text is unreadable, 8 if it has too few points, 6 if it has too many
unfoldable pub listing_answer : Option Listing → Answer (List ℕ)
listing_answer None = refused 1
listing_answer (Some l) =
    let count : ℕ = length l.points in
    cond (ltb count (stored_points + 1)) (refused 8) (cond (ltb proposed_points count) (refused 6) (keeps (kept (vec3_at l.normal 0) count (λ k. point_of (get_or l.points k [])))))

-- R and the number, or a line K for each kept number
abbrev pub lines_of : Answer (List ℕ) → List ℕ
lines_of (refused n) = refused_line n
lines_of (keeps numbers) = each kept_line numbers

unfoldable pub answer_text : List ℕ → List ℕ
answer_text text = lines_of (listing_answer (listing text))

-- each number is below n
abbrev pub Below : ℕ → List ℕ → Type 0
Below n [] = Unit {0}
Below n (x ∷ xs) = (x < n) × Below n xs

-- The promise of `answer`: out is left as out', with the answer in its first r bytes. The last two parts are what `&out[..r]` asks.
pub record Answered (text out out' : List ℕ) (r : ℕ) : Type 0 where
  pub written : Written out 0 (answer_text text) out' r
  pub fits : r ≤ length out'
  pub counted : r ≡ length (take r out')
