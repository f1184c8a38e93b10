-- What the functions of an update promise of a contact's words. Definitions only.
use Rattle.std.specs.Prelude.{ℕ, ◌≤◌, ◌<◌, ◌≡◌, true, false, not, List, map, eqb, pos, ◌-ℤ◌, length, Option, Some}
use Rattle.math.specs.Constants.{zero_f}
use Rattle.math.specs.Floats.{◌⊕◌}
use Rattle.math.specs.declared.vec.Vec3.{Vec3}
use Rattle.rows.specs.Rows.{put}
use Rattle.rules.specs.Inputs.{Settings, Collider}
use Rattle.rules.specs.Limits.{bodies}
use Rattle.rules.specs.Matching.{with_points}
use Rattle.rules.specs.Records.{Point, Manifold, PairFlags, Pair}
use Rattle.rules.specs.Recycling.{with_penetration}
use Rattle.rules.specs.Sides.{Side}
use Rattle.rules.specs.Surface.{Surface}
use Rattle.rules.specs.Update.{is_recycled, Updated, cache_of, enabled, matched, renewed_flags, status_bit}
use Rattle.layout.specs.Body.{bodies_length}
use Rattle.layout.specs.Collider.{colliders_length}
use Rattle.layout.specs.Contact.{contact_manifolds, contact_size}
use Rattle.layout.specs.Proposal.{proposal_size}
use Rattle.collider.specs.Range.{colliders_fit}
use Rattle.contact_records.specs.Recorded.{pair_at}
use Rattle.contact_records.specs.StateViews.{flags_of, cached_of}
use Rattle.manifold_records.specs.Counts.{Counted}
use Rattle.manifold_records.specs.Written.{manifolds_words}
use Rattle.contact_records.specs.Written.{int_word}
use Rattle.contact_range.specs.RangeLaws.{Fitting}
use Rattle.proposals.specs.Range.{Proposed}
use Rattle.contact_parameters.specs.Motions.{penetration_after}
use Rattle.contact_parameters.specs.declared.recycling.Motion.{Motion}
use Rattle.contact_update.specs.After.{after_words, record_updated}
use Rattle.contact_update.specs.declared.record.Outcome.{Outcome}
use Rattle.contact_update.specs.declared.renewal.Renewal.{Renewal}

-- What an update asks of its words: their lengths, and that refusals 2 and 6 have nothing to say of them.
pub record Ready (colliders bodies proposal w : List ℕ) : Type 0 where
  pub collider_words : length colliders ≡ colliders_length
  pub body_words : length bodies ≡ bodies_length
  pub proposal_words : length proposal ≡ proposal_size
  pub record_words : length w ≡ contact_size
  pub colliders_fit_lem : colliders_fit colliders ≡ true
  pub proposed : Proposed proposal 0
  pub record_fits : Fitting w 0

-- the same of a record and its proposal alone, once the colliders are loaded: what rules 2 to 12 ask of them
pub record WordsReady (proposal w : List ℕ) : Type 0 where
  pub counted : Counted w contact_manifolds
  pub proposal_words : length proposal ≡ proposal_size
  pub proposed : Proposed proposal 0

-- a body that is named has a number below the limit
pub record BelowLimit (named : Option ℕ) : Type 0 where
  pub below : (n : ℕ) → named ≡ Some n → n < bodies

-- The promise: the words and what is answered are the update's.
pub record Updates (u : Updated) (before after : List ℕ) (r : Outcome) : Type 0 where
  pub words : after ≡ after_words u.way u.pair before
  pub bit : r.bit ≡ u.bit
  pub recycled : r.recycled ≡ is_recycled u.way
  pub distance : r.max_contact_distance ≡ u.max_contact_distance

-- the same of what the words record, under whatever id
pub record UpdatesAs (u : Pair → Updated) (before after : List ℕ) (r : Outcome) : Type 0 where
  pub under : (id : ℕ) → Updates (u (pair_at before 0 id)) before after r

-- an update that rule 1 ends answers nothing
pub record SkippedIs (r : Outcome) : Type 0 where
  pub bit : r.bit ≡ false
  pub recycled : r.recycled ≡ false
  pub distance : r.max_contact_distance ≡ zero_f

-- The promise of `update_record`.
pub record RecordUpdates (s : Settings) (colliders bodies proposal before after : List ℕ) (r : Outcome) : Type 0 where
  pub under : (id : ℕ) → Updates (record_updated s colliders bodies proposal id before) before after r

-- ---- rule 5
abbrev pub point_after : Motion → Vec3 → Point → Point
point_after m normal p = with_penetration p (penetration_after m normal p)

abbrev pub manifold_after : Motion → Manifold → Manifold
manifold_after motion m = with_points m (map (point_after motion m.normal) m.points)

-- ---- rules 6 to 12
-- The promise of `renew_manifolds`: of these new manifolds, matched against the old ones, the words are stored.
pub record ManifoldsRenewed (s : Settings) (olds news : List Manifold) (before after : List ℕ) (r : ℕ) : Type 0 where
  pub words : after ≡ put before contact_manifolds (manifolds_words (matched s olds news))
  pub count : length news ≡ r
  pub few : r ≤ 6

-- The promise of `renew`: what a full update makes of a pair besides its manifolds, of which there were `old` and are `new`.
pub record StateRenewed (c1 c2 : Collider) (a b : Side) (f : Surface) (given : PairFlags) (old new : ℕ) (r : Renewal) : Type 0 where
  pub flags : flags_of r.flags ≡ renewed_flags given a.is_static b.is_static (enabled c1 c2 a b) (not (eqb new 0))
  pub change : r.change ≡ int_word (pos new -ℤ pos old)
  pub cache : cached_of r.cache ≡ cache_of a b
  pub bit : r.bit ≡ status_bit given (enabled c1 c2 a b) (not (eqb new 0)) (pos new -ℤ pos old)
  pub distance : r.max_contact_distance ≡ f.margins ⊕ f.effective_speculative
