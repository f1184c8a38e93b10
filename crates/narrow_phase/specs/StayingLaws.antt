-- One more proposed point, or manifold: the points that stay, and the manifolds that have points left. Assumes nothing.
use Rattle.std.specs.Prelude.{◌≡◌, ℕ, ◌+◌, ◌*◌, ◌<◌, Bool, not, Float, length, set}
use Rattle.std.proofs.Math.Path.{refl, sym, ap}
use Rattle.std.proofs.Common.{◌∙◌}
use Rattle.std.proofs.Math.Bool.{true, false, cond}
use mathlib.Core.List.{List, [], ◌∷◌, ◌++◌, map, map-append, append-nil}
use Rattle.rows.specs.Slots.{upto}
use Rattle.rules.specs.Filtering.{stays, staying, is_empty, without_empty}
use Rattle.rules.specs.Inputs.{ProposedPoint, ProposedManifold}
use Rattle.rules.specs.Records.{Point, Manifold}
use Rattle.manifold_records.specs.ListLaws.{map_upto_next}
use Rattle.contact_types.specs.Views.{point_of}
use Rattle.contact_types.specs.declared.contact_point.ContactPoint.{ContactPoint}
use Rattle.layout.specs.Proposal.{proposed_point_size}
use Rattle.proposals.specs.Recorded.{proposed_point_at, proposed_points_at}
use Rattle.narrow_phase.specs.ListLaws.{view_step}
use Rattle.narrow_phase.specs.Views.{first_points}

-- ---- points
module _ (t d : Float) where
  staying_append : (a b : List Point) → staying t d (a ++ b) ≡ staying t d a ++ staying t d b
  unfolding staying
  staying_append [] b = refl
  staying_append (p ∷ a) b = split (stays t d p) (staying_append a b)
    where
      split : (c : Bool) → staying t d (a ++ b) ≡ staying t d a ++ staying t d b
          → cond c (p ∷ staying t d (a ++ b)) (staying t d (a ++ b)) ≡ cond c (p ∷ staying t d a) (staying t d a) ++ staying t d b
      split true e = ap (λ l. p ∷ l) e
      split false e = e

  staying_one : (p : Point) → staying t d (p ∷ []) ≡ cond (stays t d p) (p ∷ []) []
  unfolding staying
  staying_one p = refl

  -- one more proposed point, if it stays
  pub staying_next : (f : ProposedPoint → Point) (w : List ℕ) (at k : ℕ)
      → staying t d (map f (proposed_points_at w at (k + 1)))
      ≡ staying t d (map f (proposed_points_at w at k)) ++ cond (stays t d (f (proposed_point_at w (at + k * proposed_point_size)))) (f (proposed_point_at w (at + k * proposed_point_size)) ∷ []) []
  unfolding proposed_points_at
  staying_next f w at k =
      let before = map (λ j. proposed_point_at w (at + j * proposed_point_size)) (upto k) in
      let next = proposed_point_at w (at + k * proposed_point_size) in
      ap (λ r. staying t d (map f r)) (map_upto_next (λ j. proposed_point_at w (at + j * proposed_point_size)) k)
      ∙ ap (staying t d) (map-append f before (next ∷ []))
      ∙ staying_append (map f before) (f next ∷ [])
      ∙ ap (λ r. staying t d (map f before) ++ r) (staying_one (f next))

  -- a turn of a loop that keeps them in front of an array
  pub stays_step : (f : ProposedPoint → Point) (w : List ℕ) (at k c : ℕ) (ps : List ContactPoint) {one : ℕ} {q : ContactPoint} {b : Bool}
      → first_points c ps ≡ staying t d (map f (proposed_points_at w at k)) → point_of q ≡ f (proposed_point_at w (at + k * proposed_point_size))
      → b ≡ stays t d (point_of q) → one ≡ cond b 1 0 → c < length ps
      → first_points (c + one) (set ps c q) ≡ staying t d (map f (proposed_points_at w at (k + 1)))
  unfolding first_points
  stays_step f w at k c ps {one} {q} {b} e p s o l =
      let next = proposed_point_at w (at + k * proposed_point_size) in
      view_step point_of c ps b p o l
      ∙ (λ i. e i ++ cond ((s ∙ ap (stays t d) p) i) (f next ∷ []) [])
      ∙ sym (staying_next f w at k)

  -- a turn past a point that goes
  pub gone_step : (f : ProposedPoint → Point) (w : List ℕ) (at k : ℕ) {qs : List Point} → qs ≡ staying t d (map f (proposed_points_at w at k))
      → stays t d (f (proposed_point_at w (at + k * proposed_point_size))) ≡ false → qs ≡ staying t d (map f (proposed_points_at w at (k + 1)))
  gone_step f w at k e s =
      e
      ∙ sym (append-nil (staying t d (map f (proposed_points_at w at k))))
      ∙ sym (ap (λ (b : Bool). staying t d (map f (proposed_points_at w at k)) ++ cond b (f (proposed_point_at w (at + k * proposed_point_size)) ∷ []) []) s)
      ∙ sym (staying_next f w at k)

-- ---- manifolds
without_empty_append : (a b : List Manifold) → without_empty (a ++ b) ≡ without_empty a ++ without_empty b
unfolding without_empty
without_empty_append [] b = refl
without_empty_append (m ∷ a) b = split (is_empty m.points) (without_empty_append a b)
  where
    split : (c : Bool) → without_empty (a ++ b) ≡ without_empty a ++ without_empty b → cond c (without_empty (a ++ b)) (m ∷ without_empty (a ++ b)) ≡ cond c (without_empty a) (m ∷ without_empty a) ++ without_empty b
    split true e = e
    split false e = ap (λ l. m ∷ l) e

without_empty_one : (m : Manifold) → without_empty (m ∷ []) ≡ cond (not (is_empty m.points)) (m ∷ []) []
unfolding without_empty
without_empty_one m = split (is_empty m.points)
  where
    split : (c : Bool) → cond c [] (m ∷ []) ≡ cond (not c) (m ∷ []) []
    split true = refl
    split false = refl

-- one more proposed manifold, if it has points left
pub without_empty_next : (f : ProposedManifold → Manifold) (h : ℕ → ProposedManifold) (k : ℕ)
    → without_empty (map f (map h (upto (k + 1)))) ≡ without_empty (map f (map h (upto k))) ++ cond (not (is_empty (f (h k)).points)) (f (h k) ∷ []) []
without_empty_next f h k =
    let before = map h (upto k) in
    ap (λ r. without_empty (map f r)) (map_upto_next h k)
    ∙ ap without_empty (map-append f before (h k ∷ []))
    ∙ without_empty_append (map f before) (f (h k) ∷ [])
    ∙ ap (λ r. without_empty (map f before) ++ r) (without_empty_one (f (h k)))
