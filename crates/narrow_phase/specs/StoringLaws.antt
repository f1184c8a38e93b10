-- New points and manifolds stored one after another: a turn of each loop, and its end. Assumes nothing.
use Rattle.std.specs.Prelude.{◌≡◌, refl, ℕ, ◌+◌, ◌*◌, ◌-◌, ◌<◌, Bool, not, ltb, Float, length, take}
use Rattle.std.proofs.Math.Path.{sym, ap, subst}
use Rattle.std.proofs.Common.{◌∙◌, inr, length-append}
use native.Mathlib.Omega.{arith}
use Rattle.std.proofs.Math.Bool.{true, false, cond}
use mathlib.Core.List.{List, [], ◌∷◌, ◌++◌, map, append-nil}
use borrow.Author.Tests.{le-ltb, not-true, not-false}
use Rattle.math.specs.Vec.{zero3}
use Rattle.math.specs.declared.vec.Vec3.{Vec3}
use Rattle.rows.specs.Rows.{put, each}
use Rattle.rows.specs.Laws.{length_put, put_next, put_comm}
use Rattle.rows.specs.EachLaws.{each_append, length_each}
use Rattle.rows.specs.Slots.{upto}
use Rattle.rules.specs.Filtering.{stays, staying, pruned, filtered, is_empty, without_empty}
use Rattle.rules.specs.Inputs.{ProposedPoint, ProposedManifold}
use Rattle.rules.specs.Records.{Point, Manifold}
use Rattle.rules.specs.Sides as sides
use Rattle.rules.specs.Surface as surfaces
use Rattle.rules.specs.Update.{hooked, remaining}
use Rattle.words.specs.Words.{word_at, vec3_at, float_word, vec3_words}
use Rattle.contact_filtering.specs.declared.filtering.Filtering.{Filtering}
use Rattle.manifold_records.specs.LengthLaws.{length_point, length_manifold}
use Rattle.manifold_records.specs.StoredLaws.{padded_stored}
use Rattle.manifold_records.specs.ListLaws.{length_padded}
use Rattle.manifold_records.specs.Written.{zeros, padded, point_words, manifold_words}
use Rattle.contact_types.specs.Views.{point_of}
use Rattle.contact_types.specs.declared.contact_point.ContactPoint.{ContactPoint}
use Rattle.layout.specs.Proposal.{proposal_count, proposal_manifolds, proposed_manifold_normal, proposed_manifold_points, proposed_manifold_size, proposed_point_size}
use Rattle.proposals.specs.Recorded.{proposed_point_at, proposed_points_at, proposed_manifold_at, proposal_at}
use Rattle.narrow_phase.specs.ListLaws.{length_view}
use Rattle.narrow_phase.specs.StayingLaws.{staying_next, without_empty_next}
use Rattle.narrow_phase.specs.Views.{left_of, filtered_by, first_points, PrunedTo, PointsStored, ManifoldStored, ManifoldsStored}
use Rattle.narrow_phase.specs.declared.manifold.ManifoldPoints.{ManifoldPoints}

-- ---- structs of n words, stored one after another: one more
module _ {A : Type 0} (f : A → List ℕ) (n : ℕ) (size : (a : A) → length (f a) ≡ n) where
  next_stored : (xs : List ℕ) (at : ℕ) (us : List A) (c : ℕ) (a : A) {ys zs : List ℕ} → ys ≡ put xs at (each f us) → length us ≡ c → zs ≡ put ys (at + c * n) (f a)
      → zs ≡ put xs at (each f (us ++ a ∷ []))
  next_stored xs at us c a p e q =
      q ∙ ap (λ (ws : List ℕ). put ws (at + c * n) (f a)) p
      ∙ put_next xs at (each f us) (f a) (c * n) (length_each f n size us ∙ ap (λ (k : ℕ). k * n) e)
      ∙ ap (λ (vs : List ℕ). put xs at (each f us ++ vs)) (sym (append-nil (f a)))
      ∙ ap (put xs at) (sym (each_append f us (a ∷ [])))

length_next {ℓ} : {A : Type ℓ} (us : List A) (a : A) {c : ℕ} → length us ≡ c → length (us ++ a ∷ []) ≡ c + 1
length_next us a e = length-append us (a ∷ []) ∙ ap (λ (k : ℕ). k + 1) e

-- ---- points
module _ (t d : Float) (f : ProposedPoint → Point) (w : List ℕ) (from k : ℕ) (xs : List ℕ) (at c : ℕ) {ys : List ℕ}
    (before : PointsStored (staying t d (map f (proposed_points_at w from k))) at xs ys c) where
  abbrev stayed : ℕ → List Point
  stayed k = staying t d (map f (proposed_points_at w from k))

  abbrev next : Point
  next = f (proposed_point_at w (from + k * proposed_point_size))

  goes_on : (s : Bool) → stays t d next ≡ s → stayed (k + 1) ≡ stayed k ++ cond s (next ∷ []) []
  goes_on s e = staying_next t d f w from k ∙ ap (λ (b : Bool). stayed k ++ cond b (next ∷ []) []) e

  -- the point stays, and is stored
  pub point_stored_lem : {zs : List ℕ} {n : ℕ} {q : ContactPoint} → stays t d next ≡ true → point_of q ≡ next → c < 4 → n ≡ c + 1 → zs ≡ put ys (at + c * 18) (point_words (point_of q)) → PointsStored (stayed (k + 1)) at xs zs n
  point_stored_lem {zs} {n} e moved l m s =
      subst (λ (ps : List Point). PointsStored ps at xs zs n) (sym (goes_on true e))
      (record {
        words = next_stored point_words 18 length_point xs at (stayed k) c next before.words before.count (s ∙ ap (λ (p : Point). put ys (at + c * 18) (point_words p)) moved);
        count = length_next (stayed k) next before.count ∙ sym m;
        few = omega arith;
      })

  -- the point goes
  pub point_gone : {zs : List ℕ} {n : ℕ} → stays t d next ≡ false → n ≡ c → zs ≡ ys → PointsStored (stayed (k + 1)) at xs zs n
  point_gone {zs} {n} e m s =
      subst (λ (ps : List Point). PointsStored ps at xs zs n) (sym (goes_on false e ∙ append-nil (stayed k)))
      (record { words = s ∙ before.words; count = before.count ∙ sym m; few = omega (arith, before.few) })

pub points_length : {ps : List Point} {at : ℕ} {xs ys : List ℕ} {c : ℕ} → PointsStored ps at xs ys c → length ys ≡ length xs
points_length {ps} {at} {xs} p = ap length p.words ∙ length_put xs at (each point_words ps)

-- four points or fewer are kept
pub few_stored : (normal : Vec3) (ps : List Point) {at : ℕ} {xs ys : List ℕ} {c : ℕ} → PointsStored ps at xs ys c → PointsStored (pruned normal ps) at xs ys c
unfolding pruned
few_stored normal ps {at} {xs} {ys} {c} p =
    let e : ltb 4 (length ps) ≡ false = ap (ltb 4) p.count ∙ le-ltb 4 c p.few in
    rw e p

-- those of an array
pub listed_stored : (ps : List Point) (r : ManifoldPoints) {at : ℕ} {xs ys : List ℕ} → PrunedTo ps r → ys ≡ put xs at (each point_words (map point_of (take r.count r.points))) → PointsStored ps at xs ys r.count
unfolding first_points
listed_stored ps r {at} {xs} p e =
    record {
      words = e ∙ ap (λ (qs : List Point). put xs at (each point_words qs)) p.points;
      count = ap length (sym p.points) ∙ length_view point_of r.count r.points (omega (arith, p.few, p.four));
      few = p.few;
    }

-- ---- a manifold: its points, zeros after them, and what they share before them
none_empty {ℓ} : {A : Type ℓ} (us : List A) → length us ≡ 0 → is_empty us ≡ true
none_empty [] e = refl
none_empty (a ∷ us) e = absurd (omega arith)

some_left {ℓ} : {A : Type ℓ} (us : List A) → (length us ≡ 0 → ⊥) → is_empty us ≡ false
some_left [] n = absurd (n refl)
some_left (a ∷ us) n = refl

nothing_put : (xs : List ℕ) (at : ℕ) (ps : List Point) → length ps ≡ 0 → put xs at (each point_words ps) ≡ xs
unfolding put
nothing_put xs at [] e = refl
nothing_put xs at (p ∷ ps) e = absurd (omega arith)

-- the words of what a manifold's points share
abbrev shared_words : ℕ → Vec3 → Float → Float → Vec3 → List ℕ
shared_words c normal friction restitution tangent = c ∷ vec3_words normal ++ (float_word friction ∷ float_word restitution ∷ []) ++ vec3_words tangent

whole_stored : (m : Manifold) (at : ℕ) (xs : List ℕ) {ys zs us : List ℕ} {c : ℕ} → PointsStored m.points (at + 9) xs ys c → zs ≡ put ys (at + 9 + c * 18) (zeros (72 - c * 18))
    → us ≡ put zs at (shared_words c m.normal m.friction m.restitution m.tangent_velocity) → us ≡ put xs at (manifold_words m)
unfolding manifold_words
whole_stored m at xs {ys} {zs} {us} {c} p z u =
    let ws = each point_words m.points in
    let front = shared_words c m.normal m.friction m.restitution m.tangent_velocity in
    let size : length ws ≡ c * 18 = length_each point_words 18 length_point m.points ∙ ap (λ (k : ℕ). k * 18) p.count in
    let full = length_padded 72 ws in
    u ∙ ap (λ (vs : List ℕ). put vs at front) (padded_stored 72 xs (at + 9) ws (c * 18) p.words z size (omega (arith, p.few)))
    ∙ put_comm xs (at + 9) (padded 72 ws) at front (inr (omega arith))
    ∙ put_next xs at front (padded 72 ws) 9 refl
    ∙ ap (λ (k : ℕ). put xs at (shared_words k m.normal m.friction m.restitution m.tangent_velocity ++ padded 72 ws)) (sym p.count)

module _ (w : List ℕ) (from : ℕ) (f : Filtering) (at : ℕ) (xs : List ℕ) {n : ℕ} {normal : Vec3} {ys : List ℕ} {c : ℕ}
    (counted : n ≡ word_at w from) (read : normal ≡ vec3_at w (from + proposed_manifold_normal))
    (stored : PointsStored (left_of f normal (proposed_points_at w (from + proposed_manifold_points) n)) (at + 9) xs ys c) where
  abbrev left : Manifold
  left = filtered_by f (proposed_manifold_at w from)

  points_left : PointsStored left.points (at + 9) xs ys c
  unfolding filtered proposed_manifold_at
  points_left =
      subst (λ (ps : List Point). PointsStored ps (at + 9) xs ys c)
      (λ j. left_of f (read j) (proposed_points_at w (from + proposed_manifold_points) (counted j))) stored

  -- no point is left
  pub manifold_empty : c ≡ 0 → ManifoldStored left at xs ys 0
  manifold_empty e =
      let p = points_left in
      let none = p.count ∙ e in
      record {
        words = p.words ∙ nothing_put xs (at + 9) left.points none ∙ ap (λ (s : Bool). cond s xs (put xs at (manifold_words left))) (sym (none_empty left.points none));
        count = none;
        few = omega arith;
      }

  pub manifold_stored_lem : {zs us : List ℕ} → (c ≡ 0 → ⊥) → zs ≡ put ys (at + 9 + c * 18) (zeros (72 - c * 18)) → us ≡ put zs at (shared_words c normal f.surface.friction f.surface.restitution zero3)
      → ManifoldStored left at xs us c
  unfolding filtered proposed_manifold_at
  manifold_stored_lem {zs} {us} n z u =
      let p = points_left in
      let whole = whole_stored left at xs p z (u ∙ ap (λ (v : Vec3). put zs at (shared_words c v f.surface.friction f.surface.restitution zero3)) read) in
      record {
        words = whole ∙ ap (λ (s : Bool). cond s xs (put xs at (manifold_words left))) (sym (some_left left.points (λ e. n (sym p.count ∙ e))));
        count = p.count;
        few = p.few;
      }

-- ---- manifolds
module _ (f : ProposedManifold → Manifold) (h : ℕ → ProposedManifold) (k : ℕ) (xs : List ℕ) (at c : ℕ) {ys zs : List ℕ} {r : ℕ}
    (before : ManifoldsStored (without_empty (map f (map h (upto k)))) at xs ys c) (this : ManifoldStored (f (h k)) (at + c * 81) ys zs r) where
  abbrev kept : ℕ → List Manifold
  kept k = without_empty (map f (map h (upto k)))

  runs_on : (s : Bool) → is_empty (f (h k)).points ≡ s → (zs ≡ cond s ys (put ys (at + c * 81) (manifold_words (f (h k))))) × (kept (k + 1) ≡ kept k ++ cond (not s) (f (h k) ∷ []) [])
  runs_on s e = (this.words ∙ ap (λ (q : Bool). cond q ys (put ys (at + c * 81) (manifold_words (f (h k))))) e, without_empty_next f h k ∙ ap (λ (q : Bool). kept k ++ cond (not q) (f (h k) ∷ []) []) e)

  -- the manifold has points, and is one more
  pub manifold_counts : {n : ℕ} → (r ≡ 0 → ⊥) → c < 6 → n ≡ c + 1 → ManifoldsStored (kept (k + 1)) at xs zs n
  manifold_counts {n} some l m =
      let g = runs_on false (some_left (f (h k)).points (λ e. some (sym this.count ∙ e))) in
      subst (λ (ms : List Manifold). ManifoldsStored ms at xs zs n) (sym g.1)
      (record {
        words = next_stored manifold_words 81 length_manifold xs at (kept k) c (f (h k)) before.words before.count g.0;
        count = length_next (kept k) (f (h k)) before.count ∙ sym m;
        few = omega arith;
      })

  -- the manifold is empty, and the next one takes its place
  pub manifold_goes : {n : ℕ} → r ≡ 0 → n ≡ c → ManifoldsStored (kept (k + 1)) at xs zs n
  manifold_goes {n} none m =
      let g = runs_on true (none_empty (f (h k)).points (this.count ∙ none)) in
      subst (λ (ms : List Manifold). ManifoldsStored ms at xs zs n) (sym (g.1 ∙ append-nil (kept k)))
      (record { words = g.0 ∙ before.words; count = before.count ∙ sym m; few = omega (arith, before.few) })

pub manifolds_length : {ms : List Manifold} {at : ℕ} {xs ys : List ℕ} {c : ℕ} → ManifoldsStored ms at xs ys c → length ys ≡ length xs
manifolds_length {ms} {at} {xs} p = ap length p.words ∙ length_put xs at (each manifold_words ms)

-- all that are proposed
pub all_stored : (w : List ℕ) (f : ProposedManifold → Manifold) {n : ℕ} {at : ℕ} {xs ys : List ℕ} {c : ℕ} → n ≡ word_at w proposal_count
    → ManifoldsStored (without_empty (map f (map (λ j. proposed_manifold_at w (proposal_manifolds + j * proposed_manifold_size)) (upto n)))) at xs ys c → ManifoldsStored (without_empty (map f (proposal_at w 0))) at xs ys c
unfolding proposal_at
all_stored w f {n} {at} {xs} {ys} {c} e =
    subst (λ (m : ℕ). ManifoldsStored (without_empty (map f (map (λ j. proposed_manifold_at w (proposal_manifolds + j * proposed_manifold_size)) (upto m)))) at xs ys c) e

-- ---- the hook's answer
module _ (t : Float) (a b : sides.Side) (f : surfaces.Surface) (answer : Bool) (proposal : List ProposedManifold) (at : ℕ) (xs : List ℕ) {h : Bool} (asked : h ≡ answer) where
  -- no, of a marked pair
  pub hook_no : {modify : Bool} → modify ≡ true → not h ≡ true → ManifoldsStored (remaining t a b f modify answer proposal) at xs xs 0
  unfolding remaining hooked put
  hook_no {modify} m n =
      let e : answer ≡ false = sym asked ∙ not-true h n in
      record { words = rw (m, e); count = rw (m, e); few = omega arith }

  module _ {ys : List ℕ} {c : ℕ} (made : ManifoldsStored (without_empty (map (filtered t a b f) proposal)) at xs ys c) where
    -- a pair that is not marked, and yes
    pub hook_unmarked : {modify : Bool} → modify ≡ false → ManifoldsStored (remaining t a b f modify answer proposal) at xs ys c
    unfolding remaining hooked
    hook_unmarked {modify} m = rw m made

    pub hook_yes : {modify : Bool} → modify ≡ true → not h ≡ false → ManifoldsStored (remaining t a b f modify answer proposal) at xs ys c
    unfolding remaining hooked
    hook_yes {modify} m n = let e : answer ≡ true = sym asked ∙ not-false h n in rw (m, e) made
