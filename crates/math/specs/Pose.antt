-- A pose in another pose's space (the specification, rule 4). Definitions only.
use Rattle.math.specs.Vec.{◌-v◌}
use Rattle.math.specs.Quat.{inverse, times, rotate}
use Rattle.math.specs.declared.pose.Pose.{Pose}

-- inverse rotation 1 times (position2 − position1), and times rotation 2
unfoldable pub relative : Pose → Pose → Pose
relative a b = record {
  position = rotate (inverse a.rotation) (b.position -v a.position);
  rotation = times (inverse a.rotation) b.rotation;
}
