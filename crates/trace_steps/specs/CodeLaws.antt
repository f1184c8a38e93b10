-- What the code's stores leave, function by function: the premises are what its tests and calls told. Assumes nothing.
use Rattle.std.specs.Prelude.{ℕ, ◌+◌, ◌-◌, ◌*◌, ◌≤◌, ◌<◌, ◌≡◌, Bool, ltb, set}
use Rattle.std.proofs.Common.{arith, sym, ◌∙◌, lt-ltb, le-ltb}
use Rattle.std.proofs.Math.Path.{ap}
use Rattle.std.proofs.Math.Bool.{cond}
use mathlib.Core.List.{List, [], ◌∷◌}
use Rattle.rows.specs.Rows.{part, put}
use Rattle.rows.specs.Laws.{put_one}
use Rattle.rules.specs.Limits.{pair_manifolds, proposed_points}
use Rattle.layout.specs.Proposal.{proposal_count, proposed_manifold_points, proposed_point_size}
use Rattle.words.specs.Words.{word_at}
use Rattle.trace_steps.specs.Lines.{record_stored, raised, line_normal, normal_size, manifold_place, manifold_stored, point_stored}
use Rattle.trace_steps.specs.RowLaws.{put_two}

-- ---- a record
module _ (count size : ℕ) (ws row : List ℕ) {n : ℕ} (e : n ≡ word_at ws 0) where
  pub record_none : count ≤ n → row ≡ record_stored count size ws row
  unfolding record_stored
  record_none h = ap (λ (b : Bool). cond b (put row (word_at ws 0 * size) (1 ∷ part ws 1 (size - 1))) row) (sym (le-ltb (word_at ws 0) count (omega arith)))

  pub record_stored_lem : n < count → {zs : List ℕ} → zs ≡ put (set row (n * size) 1) (n * size + 1) (part ws 1 (size - 1)) → zs ≡ record_stored count size ws row
  unfolding record_stored
  record_stored_lem h z =
      z ∙ put_two row (n * size) 1 (part ws 1 (size - 1)) ∙ ap (λ (k : ℕ). put row (k * size) (1 ∷ part ws 1 (size - 1))) e
      ∙ ap (λ (b : Bool). cond b (put row (word_at ws 0 * size) (1 ∷ part ws 1 (size - 1))) row) (sym (lt-ltb (word_at ws 0) count (omega arith)))

-- ---- a manifold line
module _ (n : ℕ) (ws row : List ℕ) {r : ℕ} (e : r ≡ raised pair_manifolds n) where
  abbrev counted : List ℕ
  counted = put row proposal_count (raised pair_manifolds n ∷ [])

  counted_is : set row proposal_count r ≡ counted
  counted_is = put_one row proposal_count r ∙ ap (λ (k : ℕ). put row proposal_count (k ∷ [])) e

  pub manifold_past : pair_manifolds ≤ n → set row proposal_count r ≡ manifold_stored n ws row
  unfolding manifold_stored
  manifold_past h = counted_is ∙ ap (λ (b : Bool). cond b (put counted (manifold_place n) (0 ∷ part ws line_normal normal_size)) counted) (sym (le-ltb n pair_manifolds h))

  pub manifold_room : n < pair_manifolds → {zs : List ℕ} → zs ≡ put (set (set row proposal_count r) (manifold_place n) 0) (manifold_place n + 1) (part ws line_normal normal_size) → zs ≡ manifold_stored n ws row
  unfolding manifold_stored
  manifold_room h z =
      z ∙ put_two (set row proposal_count r) (manifold_place n) 0 (part ws line_normal normal_size) ∙ ap (λ (xs : List ℕ). put xs (manifold_place n) (0 ∷ part ws line_normal normal_size)) counted_is
      ∙ ap (λ (b : Bool). cond b (put counted (manifold_place n) (0 ∷ part ws line_normal normal_size)) counted) (sym (lt-ltb n pair_manifolds h))

-- ---- a point line
module _ (n points : ℕ) (ws row : List ℕ) where
  abbrev place : ℕ
  place = manifold_place n

  abbrev count_put : List ℕ
  count_put = put row place (raised proposed_points points ∷ [])

  abbrev point_put : List ℕ
  point_put = put count_put (place + proposed_manifold_points + points * proposed_point_size) (part ws 0 proposed_point_size)

  pub point_nowhere : pair_manifolds ≤ n → row ≡ point_stored n points ws row
  unfolding point_stored
  point_nowhere h = ap (λ (b : Bool). cond b (cond (ltb points proposed_points) point_put count_put) row) (sym (le-ltb n pair_manifolds h))

  module _ (l : n < pair_manifolds) {r : ℕ} (e : r ≡ raised proposed_points points) where
    count_is : set row place r ≡ count_put
    count_is = put_one row place r ∙ ap (λ (k : ℕ). put row place (k ∷ [])) e

    stored_is : cond (ltb points proposed_points) point_put count_put ≡ point_stored n points ws row
    unfolding point_stored
    stored_is = ap (λ (b : Bool). cond b (cond (ltb points proposed_points) point_put count_put) row) (sym (lt-ltb n pair_manifolds l))

    pub point_full : proposed_points ≤ points → set row place r ≡ point_stored n points ws row
    point_full h = count_is ∙ ap (λ (b : Bool). cond b point_put count_put) (sym (le-ltb points proposed_points h)) ∙ stored_is

    pub point_added : points < proposed_points → {zs : List ℕ} → zs ≡ put (set row place r) (place + proposed_manifold_points + points * proposed_point_size) (part ws 0 proposed_point_size) → zs ≡ point_stored n points ws row
    point_added h z =
        z ∙ ap (λ (xs : List ℕ). put xs (place + proposed_manifold_points + points * proposed_point_size) (part ws 0 proposed_point_size)) count_is ∙ ap (λ (b : Bool). cond b point_put count_put) (sym (lt-ltb points proposed_points h)) ∙ stored_is
