-- Rule 2 by value: a collider's box and layers, a box that is grown, and two that intersect. Definitions only.
use Rattle.std.specs.Prelude.{Bool, ◌&&◌, Float}
use Rattle.math.specs.Floats.{◌⊕◌, ◌⊖◌}
use Rattle.math.specs.Vec.{vec3}
use Rattle.rules.specs.Sides.{overlaps_on}
use Rattle.collider.specs.declared.aabb.ColliderAabb.{ColliderAabb}
use Rattle.collider.specs.declared.layers.CollisionLayers.{CollisionLayers}
use Rattle.collider.specs.declared.collider_record.ColliderRecord.{ColliderRecord}

abbrev pub box_of : ColliderRecord → ColliderAabb
box_of c = record { min = c.lower; max = c.upper }

abbrev pub layers_of : ColliderRecord → CollisionLayers
layers_of c = record { memberships = c.memberships; filters = c.filters }

unfoldable pub grown : ColliderAabb → Float → ColliderAabb
grown b s =
    record {
      min = vec3 (b.min.x ⊖ s) (b.min.y ⊖ s) (b.min.z ⊖ s);
      max = vec3 (b.max.x ⊕ s) (b.max.y ⊕ s) (b.max.z ⊕ s);
    }

unfoldable pub intersecting : ColliderAabb → ColliderAabb → Bool
intersecting a b =
    overlaps_on a.min.x a.max.x b.min.x b.max.x
    && (overlaps_on a.min.y a.max.y b.min.y b.max.y
    && overlaps_on a.min.z a.max.z b.min.z b.max.z)
