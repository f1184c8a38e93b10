-- The proved cases of the specification ('Prune listing') as one table, with a theorem for the whole. Assumes nothing.
use Rattle.std.specs.Prelude.{ℕ, ◌≡◌, refl, Bool, true, false, cond, List, [], ◌∷◌, ◌++◌, map, Float, length, get_or, None, Some}
use Rattle.std.specs.Float.{binary32, nan}
use Rattle.std.specs.Float.Ieee.{of_bits, to_bits, lt, le, is_nan, add, sub, mul, neg}
use Rattle.math.specs.Constants.{bits, zero_f, half, one}
use Rattle.math.specs.Root.{root, root_of}
use Rattle.math.specs.Choose.{maximum, minimum}
use Rattle.math.specs.Pose.{relative}
use Rattle.math.specs.Quat.{identity, axis, dot4, times, inverse, rotate, chord_length}
use Rattle.math.specs.Vec.{vec3, zero2, zero3, ◌+v◌, ◌-v◌, ◌*v◌, dot, cross, squared_length, squared_distance, length3, reject}
use Rattle.math.specs.declared.vec.Vec3.{Vec3}
use Rattle.rules.specs.Numbers.{first, leader}
use Rattle.rules.specs.Filtering.{stays}
use Rattle.rules.specs.Inputs.{Coefficient, Settings}
use Rattle.rules.specs.Records.{Point, Cache}
use Rattle.rules.specs.Recycling.{scaled_tolerance, scaled_recycle, tolerance_for, radius, least_squared_dot, squared_motion, arc, recycles}
use Rattle.rules.specs.Sides.{Side}
use Rattle.rules.specs.Matching.{by_number, by_place, feature_rule, anchors_match, source, matched_point}
use Rattle.rules.specs.Pruning.{PrunePoint, projected, weight, point1, point2, side_value, point3, point4, listed, kept_beside, kept_from, kept}

-- what a case is about
pub data Case : Type 0 where
  -- which of the points stay, under that normal
  prunes : Vec3 → List PrunePoint → Case
  -- the root of a float, both by their bits
  roots : ℕ → Case
  -- which old point a new one takes, by place or by number, at that threshold squared, and the impulse that it then has
  takes : Bool → Float → Point → List Point → Case
  -- whether a touching pair of unturned bodies at the origin is recycled, by the recycle distance, how far apart the bodies were, and the sweep radius of both
  recycled : ℕ → ℕ → ℕ → Case
  -- whether a point stays, by its penetration, the distance and its normal speed
  stayed : ℕ → ℕ → ℕ → Case

-- a body at rest at the origin with that sweep radius, and the cache of a pair of such bodies, the second then that far along x
abbrev at_rest : ℕ → Side
at_rest swept =
    record {
      present = true;
      is_static = false;
      offset = zero3;
      world_com = zero3;
      pose = record { position = zero3; rotation = identity };
      linear_velocity = zero3;
      angular_velocity = zero3;
      friction = None;
      margin = None;
      speculative_maximum = None;
      sweep_radius = bits swept;
    }

abbrev cached_at : ℕ → Cache
cached_at x = record { rotation1 = identity; rotation2 = identity; relative_translation = vec3 (bits x) zero_f zero_f; relative_rotation = identity }

abbrev average : Coefficient
average = record { value = zero_f; rule = 1 }

-- length unit 1, squared cosine 0.5
abbrev settings_with : ℕ → Settings
settings_with distance =
    record {
      step_time = one;
      length_unit = one;
      contact_tolerance = zero_f;
      recycle_distance = bits distance;
      recycle_cosine = half;
      match_contacts = true;
      default_friction = average;
      default_restitution = average;
      by_place = true;
    }

abbrev mark : Bool → ℕ
mark b = cond b 1 0

-- a point by its penetration and normal speed
abbrev moving : ℕ → ℕ → Point
moving penetration speed =
    record {
      anchor1 = zero3;
      anchor2 = zero3;
      point = zero3;
      penetration = bits penetration;
      base_penetration = zero_f;
      normal_impulse = zero_f;
      normal_speed = bits speed;
      warm_start_normal = zero_f;
      warm_start_tangent = zero2;
      feature1 = 0;
      feature2 = 0;
    }

-- what the definitions give for it: numbers of points, bits, or 1 for yes
abbrev pub outcome : Case → List ℕ
outcome (prunes normal ps) = kept normal (length ps) (λ k. get_or ps k (record { anchor1 = vec3 nan nan nan; penetration = nan }))
outcome (roots n) = to_bits binary32 (root (bits n)) ∷ []
outcome (takes place square new olds) = listed (source (feature_rule place) square olds new) ++ to_bits binary32 (matched_point (feature_rule place) square olds new).warm_start_normal ∷ []
outcome (recycled distance x swept) = mark (recycles (settings_with distance) true (at_rest swept) (at_rest swept) (Some (cached_at x))) ∷ []
outcome (stayed penetration distance speed) = mark (stays one (bits distance) (moving penetration speed)) ∷ []

-- a case by its C number, and what it must give
pub record Row : Type 0 where
  pub number : ℕ
  pub case : Case
  pub expected : List ℕ

abbrev at : ℕ → ℕ → ℕ → ℕ → PrunePoint
at x y z p = record { anchor1 = vec3 (bits x) (bits y) (bits z); penetration = bits p }

abbrev some_nan : ℕ
some_nan = 0x7fc0_0000

abbrev up : Vec3
up = vec3 (bits 0) (bits 0) (bits 0x3f80_0000)

abbrev all_nan : PrunePoint
all_nan = at some_nan some_nan some_nan some_nan

abbrev east : PrunePoint
east = at 0x4000_0000 0 0 0x3f80_0000

abbrev west : PrunePoint
west = at 0xc000_0000 0 0 0x3f80_0000

abbrev north : PrunePoint
north = at 0 0x3f80_0000 0 0x3f80_0000

abbrev south : PrunePoint
south = at 0 0xbf80_0000 0 0x3f80_0000

abbrev near : PrunePoint
near = at 0x3f80_0000 0 0 0x3f80_0000

-- a point without features whose anchors are x away from the origin, and whose impulse is x
abbrev unnamed : ℕ → Point
unnamed x =
    record {
      anchor1 = vec3 (bits x) (bits 0) (bits 0);
      anchor2 = vec3 (bits x) (bits 0) (bits 0);
      point = vec3 (bits 0) (bits 0) (bits 0);
      penetration = zero_f;
      base_penetration = zero_f;
      normal_impulse = zero_f;
      normal_speed = zero_f;
      warm_start_normal = bits x;
      warm_start_tangent = zero2;
      feature1 = 0;
      feature2 = 0;
    }

abbrev row : ℕ → Case → List ℕ → Row
row n c e = record { number = n; case = c; expected = e }

-- C1 to C11, in order; beside C6 its neighbour, a recycle distance one place larger. C10 names by number; beside it the same by place, where nothing is taken.
-- In C5 and C6 one test of rule 4 alone can abandon, since a NaN abandons nothing: in C5 the motion is a NaN, and in C6 the arc, and nothing is turned.
abbrev pub table : List Row
table =
    row 1 (prunes up (east ∷ west ∷ north ∷ south ∷ near ∷ [])) (0 ∷ 3 ∷ 1 ∷ 2 ∷ [])
    ∷ row 2 (prunes up (east ∷ east ∷ east ∷ east ∷ east ∷ [])) (0 ∷ 1 ∷ [])
    ∷ row 3 (prunes up (east ∷ west ∷ north ∷ north ∷ near ∷ [])) (0 ∷ 1 ∷ 2 ∷ [])
    ∷ row 4 (prunes all_nan.anchor1 (all_nan ∷ all_nan ∷ all_nan ∷ all_nan ∷ all_nan ∷ [])) (0 ∷ 1 ∷ [])
    ∷ row 5 (recycled 0 some_nan 0) (0 ∷ [])
    ∷ row 6 (recycled 0x3f00_0000 0x3f00_0000 some_nan) (0 ∷ [])
    ∷ row 6 (recycled 0x3f00_0001 0x3f00_0000 some_nan) (1 ∷ [])
    ∷ row 7 (roots 0x4000_0000) (0x3fb5_04f3 ∷ [])
    ∷ row 8 (roots 0x0000_0001) (0x1a35_04f3 ∷ [])
    ∷ row 9 (roots 0x8000_0000) (0x8000_0000 ∷ [])
    ∷ row 9 (roots 0xbf80_0000) (0x7fc0_0000 ∷ [])
    ∷ row 10 (takes false (bits 0x3c23_d70a) (unnamed 0x42c8_0000) (unnamed 0x4348_0000 ∷ unnamed 0xc2c8_0000 ∷ [])) (0 ∷ 0x4348_0000 ∷ [])
    ∷ row 10 (takes true (bits 0x3c23_d70a) (unnamed 0x42c8_0000) (unnamed 0x4348_0000 ∷ unnamed 0xc2c8_0000 ∷ [])) (0x42c8_0000 ∷ [])
    ∷ row 11 (stayed 0xbf00_0000 0x3f00_0000 0) (0 ∷ [])
    ∷ []

pub cases_hold : map (λ r. outcome r.case) table ≡ map (λ r. r.expected) table
unfolding recycles scaled_tolerance scaled_recycle tolerance_for radius least_squared_dot squared_motion arc stays relative axis dot4 times inverse rotate chord_length length3 minimum ◌+v◌ le neg kept kept_from kept_beside point1 point2 point3 point4 side_value weight projected leader source matched_point first by_number by_place anchors_match root root_of maximum ◌-v◌ ◌*v◌ dot cross squared_length squared_distance reject of_bits to_bits lt is_nan add sub mul
cases_hold = refl
