-- What a struct or an enum of the code is as a plain value of `rules`. Definitions only.
use Rattle.std.specs.Prelude.{ℕ, ◌+◌, List, Option, option_map}
use Rattle.words.specs.Words.{word_at, float_at, vec3_at, pose_at, mark_at, if_marked}
use Rattle.layout.specs.Body.{body_angular_velocity, body_center_of_mass, body_friction, body_linear_velocity, body_margin, body_position, body_speculative_maximum, body_static, body_sweep_radius}
use Rattle.layout.specs.Collider.{collider_body, collider_filters, collider_friction, collider_lower, collider_margin, collider_memberships, collider_position, collider_restitution, collider_sensor, collider_upper}
use Rattle.rules.specs.Inputs as rules
use Rattle.rules.specs.Sides as sides
use Rattle.collider.specs.declared.coefficient.Coefficient.{Coefficient}
use Rattle.collider.specs.declared.settings.Settings.{Settings}
use Rattle.collider.specs.declared.collider_record.ColliderRecord.{ColliderRecord}
use Rattle.collider.specs.declared.body_record.BodyRecord.{BodyRecord}
use Rattle.collider.specs.declared.side.Side.{Side}

abbrev pub plain_coefficient : Coefficient → rules.Coefficient
plain_coefficient c = record { value = c.value; rule = c.rule }

abbrev pub plain_coefficient_if : Option Coefficient → Option rules.Coefficient
plain_coefficient_if = option_map plain_coefficient

-- a coefficient and its rule, from their two words
abbrev pub loaded_coefficient : List ℕ → ℕ → Coefficient
loaded_coefficient xs at = record { value = float_at xs at; rule = word_at xs (at + 1) }

-- the record at a place, whose presence mark is set
unfoldable pub recorded_collider : List ℕ → ℕ → ColliderRecord
recorded_collider xs at =
    record {
      body = if_marked word_at xs (at + collider_body);
      lower = vec3_at xs (at + collider_lower);
      upper = vec3_at xs (at + collider_upper);
      position = vec3_at xs (at + collider_position);
      memberships = word_at xs (at + collider_memberships);
      filters = word_at xs (at + collider_filters);
      friction = if_marked loaded_coefficient xs (at + collider_friction);
      restitution = if_marked loaded_coefficient xs (at + collider_restitution);
      margin = if_marked float_at xs (at + collider_margin);
      sensor = mark_at xs (at + collider_sensor);
    }

unfoldable pub recorded_body : List ℕ → ℕ → BodyRecord
recorded_body xs at =
    record {
      is_static = mark_at xs (at + body_static);
      pose = pose_at xs (at + body_position);
      center_of_mass = vec3_at xs (at + body_center_of_mass);
      linear_velocity = vec3_at xs (at + body_linear_velocity);
      angular_velocity = vec3_at xs (at + body_angular_velocity);
      friction = if_marked loaded_coefficient xs (at + body_friction);
      margin = if_marked float_at xs (at + body_margin);
      speculative_maximum = if_marked float_at xs (at + body_speculative_maximum);
      sweep_radius = float_at xs (at + body_sweep_radius);
    }

abbrev pub plain_settings : Settings → rules.Settings
plain_settings s =
    record {
      step_time = s.step_time;
      length_unit = s.length_unit;
      contact_tolerance = s.contact_tolerance;
      recycle_distance = s.recycle_distance;
      recycle_cosine = s.recycle_cosine;
      match_contacts = s.match_contacts;
      default_friction = plain_coefficient s.default_friction;
      default_restitution = plain_coefficient s.default_restitution;
      by_place = s.by_place;
    }

abbrev pub plain_collider : ColliderRecord → rules.Collider
plain_collider c =
    record {
      body = c.body;
      lower = c.lower;
      upper = c.upper;
      position = c.position;
      memberships = c.memberships;
      filters = c.filters;
      friction = plain_coefficient_if c.friction;
      restitution = plain_coefficient_if c.restitution;
      margin = c.margin;
      sensor = c.sensor;
    }

abbrev pub plain_collider_if : Option ColliderRecord → Option rules.Collider
plain_collider_if = option_map plain_collider

abbrev pub plain_body : BodyRecord → rules.Body
plain_body b =
    record {
      is_static = b.is_static;
      pose = b.pose;
      center_of_mass = b.center_of_mass;
      linear_velocity = b.linear_velocity;
      angular_velocity = b.angular_velocity;
      friction = plain_coefficient_if b.friction;
      margin = b.margin;
      speculative_maximum = b.speculative_maximum;
      sweep_radius = b.sweep_radius;
    }

abbrev pub plain_body_if : Option BodyRecord → Option rules.Body
plain_body_if = option_map plain_body

abbrev pub plain_side : Side → sides.Side
plain_side a =
    record {
      present = a.present;
      is_static = a.is_static;
      offset = a.offset;
      world_com = a.world_com;
      pose = a.pose;
      linear_velocity = a.linear_velocity;
      angular_velocity = a.angular_velocity;
      friction = plain_coefficient_if a.friction;
      margin = a.margin;
      speculative_maximum = a.speculative_maximum;
      sweep_radius = a.sweep_radius;
    }
