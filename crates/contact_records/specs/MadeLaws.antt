-- A pair's state that is loaded, seen as the rules' one. Assumes nothing.
use Rattle.std.specs.Prelude.{◌≡◌, refl, Bool, true, false, cond, ℕ, ◌+◌, List, None, Some}
use Rattle.rules.specs.Records.{Cache}
use Rattle.words.specs.Words.{vec3_at, quat_at, mark_at, present_at}
use Rattle.contact_types.specs.Cached.{recorded_cache}
use Rattle.contact_records.specs.Recorded.{cache_at, flags_at}
use Rattle.contact_records.specs.StateViews.{recorded_flags, flags_of, cache_of}

pub flags_seen : (xs : List ℕ) (at : ℕ) → flags_of (recorded_flags xs at) ≡ flags_at xs at
unfolding recorded_flags flags_at
flags_seen xs at = refl

-- the poses at a place
abbrev pub cached_at : List ℕ → ℕ → Cache
cached_at xs at = record { rotation1 = quat_at xs (at + 1); rotation2 = quat_at xs (at + 5); relative_translation = vec3_at xs (at + 9); relative_rotation = quat_at xs (at + 12) }

-- the poses behind a presence mark, seen as the rules' ones
pub cache_present : (xs : List ℕ) (at : ℕ) → cache_of (present_at recorded_cache xs at) ≡ cache_at xs at
unfolding cache_at
cache_present xs at = by (mark_at xs at)
  where
    by : (b : Bool) → cache_of (cond b (Some (recorded_cache xs at)) None) ≡ cond b (Some (cached_at xs at)) None
    by true = refl
    by false = refl
