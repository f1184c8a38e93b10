-- What the words of settings, colliders and bodies record, as the plain values of `rules`. Definitions only.
use Rattle.std.specs.Prelude.{ℕ, ◌+◌, ◌*◌, Bool, true, cond, List, Float, Option, None, Some}
use Rattle.rules.specs.Inputs.{Coefficient, Settings, Collider, Body}
use Rattle.words.specs.Words.{word_at, float_at, vec3_at, pose_at, mark_at, if_marked}
use Rattle.layout.specs.Body.{body_angular_velocity, body_center_of_mass, body_friction, body_linear_velocity, body_margin, body_position, body_size, body_speculative_maximum, body_static, body_sweep_radius}
use Rattle.layout.specs.Collider.{collider_body, collider_filters, collider_friction, collider_lower, collider_margin, collider_memberships, collider_position, collider_restitution, collider_sensor, collider_size, collider_upper}
use Rattle.layout.specs.Settings.{settings_contact_tolerance, settings_friction, settings_length_unit, settings_match_contacts, settings_matching, settings_recycle_cosine, settings_recycle_distance, settings_restitution, settings_step_time}

-- a setting: a presence mark and a mark; where it is not named, what is said for it
unfoldable pub mark_or : Bool → List ℕ → ℕ → Bool
mark_or unnamed xs at = cond (mark_at xs at) (mark_at xs (at + 1)) unnamed

-- a mark and a number, a float, or a coefficient with its rule
abbrev pub number_if_at : List ℕ → ℕ → Option ℕ
number_if_at = if_marked word_at

abbrev pub float_if_at : List ℕ → ℕ → Option Float
float_if_at = if_marked float_at

abbrev pub coefficient_at : List ℕ → ℕ → Coefficient
coefficient_at xs at = record { value = float_at xs at; rule = word_at xs (at + 1) }

abbrev pub coefficient_if_at : List ℕ → ℕ → Option Coefficient
coefficient_if_at = if_marked coefficient_at

-- not named, matching is by place
unfoldable pub settings_of : List ℕ → Settings
settings_of xs =
    record {
      step_time = float_at xs settings_step_time;
      length_unit = float_at xs settings_length_unit;
      contact_tolerance = float_at xs settings_contact_tolerance;
      recycle_distance = float_at xs settings_recycle_distance;
      recycle_cosine = float_at xs settings_recycle_cosine;
      match_contacts = mark_at xs settings_match_contacts;
      default_friction = coefficient_at xs settings_friction;
      default_restitution = coefficient_at xs settings_restitution;
      by_place = mark_or true xs settings_matching;
    }

-- the record at a place, whose presence mark is set
unfoldable pub present_collider : List ℕ → ℕ → Collider
present_collider xs at =
    record {
      body = number_if_at xs (at + collider_body);
      lower = vec3_at xs (at + collider_lower);
      upper = vec3_at xs (at + collider_upper);
      position = vec3_at xs (at + collider_position);
      memberships = word_at xs (at + collider_memberships);
      filters = word_at xs (at + collider_filters);
      friction = coefficient_if_at xs (at + collider_friction);
      restitution = coefficient_if_at xs (at + collider_restitution);
      margin = float_if_at xs (at + collider_margin);
      sensor = mark_at xs (at + collider_sensor);
    }

-- collider n, absent where its mark is not set
unfoldable pub collider_at : List ℕ → ℕ → Option Collider
collider_at xs n = cond (mark_at xs (n * collider_size)) (Some (present_collider xs (n * collider_size))) None

unfoldable pub present_body : List ℕ → ℕ → Body
present_body xs at =
    record {
      is_static = mark_at xs (at + body_static);
      pose = pose_at xs (at + body_position);
      center_of_mass = vec3_at xs (at + body_center_of_mass);
      linear_velocity = vec3_at xs (at + body_linear_velocity);
      angular_velocity = vec3_at xs (at + body_angular_velocity);
      friction = coefficient_if_at xs (at + body_friction);
      margin = float_if_at xs (at + body_margin);
      speculative_maximum = float_if_at xs (at + body_speculative_maximum);
      sweep_radius = float_at xs (at + body_sweep_radius);
    }

unfoldable pub body_at : List ℕ → ℕ → Option Body
body_at xs n = cond (mark_at xs (n * body_size)) (Some (present_body xs (n * body_size))) None
