-- The settings' words. Definitions only; docs/BUFFERS.md has the same table.
use Rattle.std.specs.Prelude.{ℕ}

abbrev pub settings_step_time : ℕ
settings_step_time = 0

abbrev pub settings_length_unit : ℕ
settings_length_unit = 1

abbrev pub settings_contact_tolerance : ℕ
settings_contact_tolerance = 2

abbrev pub settings_recycle_distance : ℕ
settings_recycle_distance = 3

-- the squared cosine of half the recycle angle
abbrev pub settings_recycle_cosine : ℕ
settings_recycle_cosine = 4

abbrev pub settings_match_contacts : ℕ
settings_match_contacts = 5

-- the defaults: coefficient and rule each
abbrev pub settings_friction : ℕ
settings_friction = 6

abbrev pub settings_restitution : ℕ
settings_restitution = 8

-- the matching setting: presence mark, mark
abbrev pub settings_matching : ℕ
settings_matching = 10

abbrev pub settings_length : ℕ
settings_length = 12
