-- A contact's record: the Rust's `ContactEdge` and `ContactPair` together. The place of an optional value is that of its mark. Definitions only; docs/BUFFERS.md has the same table.
use Rattle.std.specs.Prelude.{ℕ, ◌+◌}
use Rattle.layout.specs.Manifold.{manifolds_size}

abbrev pub contact_collider1 : ℕ
contact_collider1 = 0

abbrev pub contact_collider2 : ℕ
contact_collider2 = 1

-- mark and number
abbrev pub contact_body1 : ℕ
contact_body1 = 2

abbrev pub contact_body1_number : ℕ
contact_body1_number = contact_body1 + 1

abbrev pub contact_body2 : ℕ
contact_body2 = 4

abbrev pub contact_body2_number : ℕ
contact_body2_number = contact_body2 + 1

abbrev pub contact_pair_index : ℕ
contact_pair_index = 6

-- the edge's marks: `ContactEdgeFlags`
abbrev pub contact_edge_flags : ℕ
contact_edge_flags = 7

abbrev pub edge_touching : ℕ
edge_touching = contact_edge_flags

abbrev pub edge_contact_events : ℕ
edge_contact_events = contact_edge_flags + 1

-- the pair's marks: `ContactPairFlags`
abbrev pub contact_flags : ℕ
contact_flags = 9

abbrev pub pair_touching : ℕ
pair_touching = contact_flags

abbrev pub pair_disjoint_aabb : ℕ
pair_disjoint_aabb = contact_flags + 1

abbrev pub pair_started_touching : ℕ
pair_started_touching = contact_flags + 2

abbrev pub pair_stopped_touching : ℕ
pair_stopped_touching = contact_flags + 3

abbrev pub pair_generate_constraints : ℕ
pair_generate_constraints = contact_flags + 4

abbrev pub pair_started_generating_constraints : ℕ
pair_started_generating_constraints = contact_flags + 5

abbrev pub pair_static1 : ℕ
pair_static1 = contact_flags + 6

abbrev pub pair_static2 : ℕ
pair_static2 = contact_flags + 7

abbrev pub pair_modify_contacts : ℕ
pair_modify_contacts = contact_flags + 8

-- how many marks the pair has, and the two together
abbrev pub flags_size : ℕ
flags_size = 9

abbrev pub marks_size : ℕ
marks_size = 2 + flags_size

abbrev pub contact_count_change : ℕ
contact_count_change = 18

abbrev pub contact_speculative_distance : ℕ
contact_speculative_distance = 19

-- the recycling cache: mark, rotations 1 and 2, relative translation and rotation
abbrev pub contact_cache : ℕ
contact_cache = 20

-- counted from its mark
abbrev pub cache_rotation1 : ℕ
cache_rotation1 = 1

abbrev pub cache_rotation2 : ℕ
cache_rotation2 = 5

abbrev pub cache_relative_translation : ℕ
cache_relative_translation = 9

abbrev pub cache_relative_rotation : ℕ
cache_relative_rotation = 12

abbrev pub cache_size : ℕ
cache_size = 16

-- the number of manifolds, then the manifolds
abbrev pub contact_manifolds : ℕ
contact_manifolds = 36

abbrev pub contact_size : ℕ
contact_size = contact_manifolds + manifolds_size
