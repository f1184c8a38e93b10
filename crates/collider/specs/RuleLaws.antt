-- Rules 2 and 7: what the calls of src/overlap.rt and src/surface.rt give, put together. Assumes nothing.
use Rattle.std.specs.Prelude.{◌≡◌, refl, Bool, Float, Option, None, Some}
use Rattle.std.proofs.Common.{ap, ◌∙◌}
use Rattle.rules.specs.Sides.{overlap}
use Rattle.rules.specs.Surface.{or_else, first_given}
use Rattle.collider.specs.Views.{plain_collider}
use Rattle.collider.specs.Boxes.{box_of, grown, intersecting}
use Rattle.collider.specs.declared.aabb.ColliderAabb.{ColliderAabb}
use Rattle.collider.specs.declared.collider_record.ColliderRecord.{ColliderRecord}

-- box 2 alone is grown
pub overlap_by_boxes : (c1 c2 : ColliderRecord) (s : Float) {b1 b2 : ColliderAabb} {r : Bool}
    → b1 ≡ box_of c1 → b2 ≡ grown (box_of c2) s → r ≡ intersecting b1 b2 → r ≡ overlap (plain_collider c1) (plain_collider c2) s
unfolding overlap grown intersecting
overlap_by_boxes c1 c2 s {b1} {b2} p q e =
    e ∙ ap (λ (b : ColliderAabb). intersecting b b2) p ∙ ap (intersecting (box_of c1)) q

-- the first of two that is given, where the second never is
pub alone : {A : Type 0} (o : Option A) (d : A) → or_else (first_given o None) d ≡ or_else o d
alone None d = refl
alone (Some a) d = refl
