-- Lines of a pair that is not active. Definitions only; the theorem is `passed_over` in PassedOverLaws.
use Rattle.std.specs.Prelude.{ℕ, ◌+◌, ◌<◌, ◌≡◌, Bool, true, false, cond, ◌&&◌, List, [], ◌∷◌}
use Rattle.words.specs.Words.{word_at}
use Rattle.layout.specs.Contact.{contact_collider2}
use Rattle.contact_range.specs.Recorded.{contact_at, listed_count, listed_at}
use Rattle.trace_rules.specs.Fields.{Line, hook_letter, manifold_letter, point_letter}
use Rattle.trace_rules.specs.Reading.{is}
use Rattle.trace_rules.specs.Records.{of_pair}

-- the pair that the line names is that of no active contact of the graph
abbrev pub Inactive : List ℕ → Line → Type 0
Inactive g l = (p : ℕ) → p < listed_count g → of_pair (word_at g (contact_at g (listed_at g p))) (word_at g (contact_at g (listed_at g p) + contact_collider2)) l ≡ false

-- points alone
pub data Points : List Line → Type 0 where
  end : Points []
  point : {l : Line} {ls : List Line} → is point_letter l ≡ true → l.fits ≡ true → Points ls → Points (l ∷ ls)

-- a point stands only where the line above is a manifold or a point; `above` says whether the line above the first is one
unfoldable pub points_follow : Bool → List Line → Bool
points_follow above [] = true
points_follow above (l ∷ ls) = cond (is point_letter l) (above && points_follow true ls) (points_follow (is manifold_letter l) ls)

-- the first line is a point
abbrev pub point_first : List Line → Bool
point_first [] = false
point_first (l ∷ ls) = is point_letter l

-- Lines, and those after them up to the go, such that the first are passed over: an H, or an M with all its points, of a pair that is not active.
-- No number in them is out of range. That a point of `after` stands below a manifold of `after` is so in every trace, since a point is readable only right after
-- a manifold or a point, and all points of the M are passed over with it (`own_points` in ReadableLaws).
pub data PassedOver : List ℕ → List Line → List Line → Type 0 where
  hook : {g : List ℕ} {l : Line} {after : List Line} → is hook_letter l ≡ true → l.fits ≡ true → Inactive g l → PassedOver g (l ∷ []) after
  manifold : {g : List ℕ} {l : Line} {points after : List Line} → is manifold_letter l ≡ true → l.fits ≡ true → Inactive g l → Points points → points_follow false after ≡ true
      → PassedOver g (l ∷ points) after
