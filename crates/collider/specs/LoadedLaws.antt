-- A record that is loaded field by field: what each call gives, put together. Assumes nothing.
use Rattle.std.specs.Prelude.{◌≡◌, refl, ℕ, ◌+◌, ◌*◌, Bool, true, false, cond, List, Float, Option, Some, None, unwrap_or, option_map}
use Rattle.std.proofs.Common.{◌∙◌, ap}
use Rattle.math.specs.declared.pose.Pose.{Pose}
use Rattle.math.specs.declared.vec.Vec3.{Vec3}
use Rattle.words.specs.Words.{word_at, float_at, vec3_at, mark_at, pose_at, if_marked, present_at}
use Rattle.layout.specs.Body.{body_angular_velocity, body_center_of_mass, body_friction, body_linear_velocity, body_margin, body_position, body_size, body_speculative_maximum, body_static, body_sweep_radius}
use Rattle.layout.specs.Collider.{collider_body, collider_filters, collider_friction, collider_lower, collider_margin, collider_memberships, collider_position, collider_restitution, collider_sensor, collider_size, collider_upper}
use Rattle.layout.specs.Settings.{settings_friction, settings_match_contacts, settings_matching, settings_restitution}
use Rattle.collider.specs.Recorded.{mark_or, number_if_at, float_if_at, coefficient_at, coefficient_if_at, settings_of, present_collider, present_body, collider_at, body_at}
use Rattle.collider.specs.Views.{loaded_coefficient, plain_coefficient, plain_coefficient_if, plain_settings, recorded_collider, plain_collider, plain_collider_if, recorded_body, plain_body, plain_body_if}
use Rattle.collider.specs.declared.coefficient.Coefficient.{Coefficient}

-- a coefficient that may be absent
pub coefficient_loaded : (xs : List ℕ) (at : ℕ) → plain_coefficient_if (if_marked loaded_coefficient xs at) ≡ coefficient_if_at xs at
unfolding if_marked
coefficient_loaded xs at = by (mark_at xs at)
  where
    by : (b : Bool) → option_map plain_coefficient (cond b (Some (loaded_coefficient xs (at + 1))) None) ≡ cond b (Some (coefficient_at xs (at + 1))) None
    by true = refl
    by false = refl

-- a setting, and what is said for one that is not named
pub setting_loaded : (unnamed : Bool) (xs : List ℕ) (at : ℕ) → unwrap_or (if_marked mark_at xs at) unnamed ≡ mark_or unnamed xs at
unfolding if_marked mark_or
setting_loaded unnamed xs at = by (mark_at xs at)
  where
    by : (b : Bool) → unwrap_or (cond b (Some (mark_at xs (at + 1))) None) unnamed ≡ cond b (mark_at xs (at + 1)) unnamed
    by true = refl
    by false = refl

pub settings_loaded : (xs : List ℕ) {time unit tolerance distance cosine : Float} {matching place : Bool} {friction restitution : Coefficient}
    → time ≡ float_at xs 0 → unit ≡ float_at xs 1 → tolerance ≡ float_at xs 2 → distance ≡ float_at xs 3 → cosine ≡ float_at xs 4
    → matching ≡ mark_at xs settings_match_contacts
    → friction ≡ loaded_coefficient xs settings_friction
    → restitution ≡ loaded_coefficient xs settings_restitution
    → place ≡ unwrap_or (if_marked mark_at xs settings_matching) true
    → plain_settings (record { step_time = time; length_unit = unit; contact_tolerance = tolerance; recycle_distance = distance; recycle_cosine = cosine; match_contacts = matching; default_friction = friction; default_restitution = restitution; by_place = place }) ≡ settings_of xs
unfolding settings_of
settings_loaded xs a b c d e f g h j =
    λ i. record { step_time = a i; length_unit = b i; contact_tolerance = c i; recycle_distance = d i; recycle_cosine = e i; match_contacts = f i; default_friction = plain_coefficient (g i); default_restitution = plain_coefficient (h i); by_place = (j ∙ setting_loaded true xs settings_matching) i }

module _ (xs : List ℕ) (at : ℕ) where
  pub collider_loaded : (body : Option ℕ) {lower upper position : Vec3} {memberships filters : ℕ} (friction restitution : Option Coefficient) (margin : Option Float) {sensor : Bool}
      → body ≡ number_if_at xs (at + collider_body)
      → lower ≡ vec3_at xs (at + collider_lower) → upper ≡ vec3_at xs (at + collider_upper) → position ≡ vec3_at xs (at + collider_position)
      → memberships ≡ word_at xs (at + collider_memberships) → filters ≡ word_at xs (at + collider_filters)
      → friction ≡ if_marked loaded_coefficient xs (at + collider_friction)
      → restitution ≡ if_marked loaded_coefficient xs (at + collider_restitution)
      → margin ≡ float_if_at xs (at + collider_margin)
      → sensor ≡ mark_at xs (at + collider_sensor)
      → plain_collider (record { body = body; lower = lower; upper = upper; position = position; memberships = memberships; filters = filters; friction = friction; restitution = restitution; margin = margin; sensor = sensor }) ≡ present_collider xs at
  unfolding present_collider
  collider_loaded body friction restitution margin a b c d e f g h j k =
      λ i. record { body = a i; lower = b i; upper = c i; position = d i; memberships = e i; filters = f i; friction = (ap plain_coefficient_if g ∙ coefficient_loaded xs (at + collider_friction)) i; restitution = (ap plain_coefficient_if h ∙ coefficient_loaded xs (at + collider_restitution)) i; margin = j i; sensor = k i }

  pub body_loaded : {is_static : Bool} {pose : Pose} {center_of_mass linear_velocity angular_velocity : Vec3} (friction : Option Coefficient) (margin speculative : Option Float) {radius : Float}
      → is_static ≡ mark_at xs (at + body_static) → pose ≡ pose_at xs (at + body_position)
      → center_of_mass ≡ vec3_at xs (at + body_center_of_mass) → linear_velocity ≡ vec3_at xs (at + body_linear_velocity) → angular_velocity ≡ vec3_at xs (at + body_angular_velocity)
      → friction ≡ if_marked loaded_coefficient xs (at + body_friction)
      → margin ≡ float_if_at xs (at + body_margin) → speculative ≡ float_if_at xs (at + body_speculative_maximum)
      → radius ≡ float_at xs (at + body_sweep_radius)
      → plain_body (record { is_static = is_static; pose = pose; center_of_mass = center_of_mass; linear_velocity = linear_velocity; angular_velocity = angular_velocity; friction = friction; margin = margin; speculative_maximum = speculative; sweep_radius = radius }) ≡ present_body xs at
  unfolding present_body
  body_loaded friction margin speculative a b c d e f g h j =
      λ i. record { is_static = a i; pose = b i; center_of_mass = c i; linear_velocity = d i; angular_velocity = e i; friction = (ap plain_coefficient_if f ∙ coefficient_loaded xs (at + body_friction)) i; margin = g i; speculative_maximum = h i; sweep_radius = j i }

  pub collider_seen : plain_collider (recorded_collider xs at) ≡ present_collider xs at
  unfolding recorded_collider
  collider_seen =
      collider_loaded (if_marked word_at xs (at + collider_body)) (if_marked loaded_coefficient xs (at + collider_friction)) (if_marked loaded_coefficient xs (at + collider_restitution)) (if_marked float_at xs (at + collider_margin))
      refl refl refl refl refl refl refl refl refl refl

  pub body_seen : plain_body (recorded_body xs at) ≡ present_body xs at
  unfolding recorded_body
  body_seen =
      body_loaded (if_marked loaded_coefficient xs (at + body_friction)) (if_marked float_at xs (at + body_margin)) (if_marked float_at xs (at + body_speculative_maximum))
      refl refl refl refl refl refl refl refl refl

-- a record behind its presence mark, seen as the rules' one
module _ {A B : Type 0} (f : List ℕ → ℕ → A) (g : A → B) (h : List ℕ → ℕ → B) (seen : (xs : List ℕ) (at : ℕ) → g (f xs at) ≡ h xs at) where
  present_seen : (xs : List ℕ) (at : ℕ) → option_map g (present_at f xs at) ≡ cond (mark_at xs at) (Some (h xs at)) None
  present_seen xs at = by (mark_at xs at)
    where
      by : (b : Bool) → option_map g (cond b (Some (f xs at)) None) ≡ cond b (Some (h xs at)) None
      by true = ap Some (seen xs at)
      by false = refl

pub collider_present : (xs : List ℕ) (n : ℕ) → plain_collider_if (present_at recorded_collider xs (n * collider_size)) ≡ collider_at xs n
unfolding collider_at
collider_present xs n = present_seen recorded_collider plain_collider present_collider collider_seen xs (n * collider_size)

pub body_present : (xs : List ℕ) (n : ℕ) → plain_body_if (present_at recorded_body xs (n * body_size)) ≡ body_at xs n
unfolding body_at
body_present xs n = present_seen recorded_body plain_body present_body body_seen xs (n * body_size)
