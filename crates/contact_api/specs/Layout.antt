-- What `sardinerod_lengths` and `sardinerod_layout` answer: the lengths of the lent rows, and limits and places by name.
-- Definitions only; docs/BUFFERS.md has the same table.
use Rattle.std.specs.Prelude.{ℕ, ◌+◌, ◌*◌, List, [], ◌∷◌, ◌++◌}
use Rattle.trace_printing.specs.Lines.{printed_size}
use Rattle.layout.specs.Body.{bodies_length, body_angular_velocity, body_center_of_mass, body_friction, body_linear_velocity, body_margin, body_position, body_rotation, body_size, body_speculative_maximum, body_static, body_sweep_radius}
use Rattle.layout.specs.Change.{change_size, changes_length}
use Rattle.layout.specs.Collider.{collider_body, collider_filters, collider_friction, collider_lower, collider_margin, collider_memberships, collider_position, collider_restitution, collider_sensor, collider_size, collider_upper, colliders_length}
use Rattle.layout.specs.Contact.{contact_body1, contact_body2, contact_cache, contact_collider1, contact_collider2, contact_count_change, contact_edge_flags, contact_flags, contact_manifolds, contact_pair_index, contact_size, contact_speculative_distance}
use Rattle.layout.specs.Event.{event_size, events_length}
use Rattle.layout.specs.Graph.{graph_capacity, graph_freed, graph_given, graph_length, graph_list, graph_listed}
use Rattle.layout.specs.Manifold.{manifold_friction, manifold_normal, manifold_points, manifold_restitution, manifold_size, manifold_tangent_velocity}
use Rattle.layout.specs.Point.{point_anchor1, point_anchor2, point_base_penetration, point_features, point_normal_impulse, point_normal_speed, point_penetration, point_position, point_size, point_warm_start_normal_impulse, point_warm_start_tangent_impulse}
use Rattle.layout.specs.Proposal.{proposal_count, proposal_hook, proposal_manifolds, proposal_size, proposed_manifold_normal, proposed_manifold_points, proposed_manifold_size, proposed_point_features, proposed_point_penetration, proposed_point_size}
use Rattle.layout.specs.Prune.{prune_points_length}
use Rattle.layout.specs.Request.{request_length}
use Rattle.layout.specs.Settings.{settings_contact_tolerance, settings_friction, settings_length, settings_length_unit, settings_match_contacts, settings_matching, settings_recycle_cosine, settings_recycle_distance, settings_restitution, settings_step_time}
use Rattle.layout.specs.Shares.{shares_counts, shares_entries, shares_length}
use Rattle.rules.specs.Limits.{bodies, colliders, most_contacts, most_workers, pair_manifolds, proposed_points, stored_points}
use Rattle.update_pass.specs.Shared.{bits_length}

-- ---- rows of the C functions' own
abbrev pub add_answer_length : ℕ
add_answer_length = 1

abbrev pub step_answer_length : ℕ
step_answer_length = 3

abbrev pub look_up_answer_length : ℕ
look_up_answer_length = 10

abbrev pub prune_normal_length : ℕ
prune_normal_length = 3

abbrev pub prune_answer_length : ℕ
prune_answer_length = 1 + stored_points

abbrev pub lengths_length : ℕ
lengths_length = 10

-- a player: the place of the next line, where the lines since the last go begin, three marks
abbrev pub player_length : ℕ
player_length = 5

abbrev pub play_answer_length : ℕ
play_answer_length = 2

abbrev pub layout_length : ℕ
layout_length = 99

-- ---- settings, colliders, bodies, proposals, shares, graph, bit words, events, changes, distances
unfoldable pub lengths_words : ℕ → List ℕ
lengths_words capacity =
    settings_length ∷ colliders_length ∷ bodies_length ∷ (capacity * proposal_size) ∷ shares_length capacity ∷ graph_length capacity
    ∷ bits_length capacity ∷ events_length capacity ∷ changes_length capacity ∷ capacity ∷ []

-- ---- the layout
abbrev pub limit_words : List ℕ
limit_words = most_contacts ∷ colliders ∷ bodies ∷ pair_manifolds ∷ stored_points ∷ proposed_points ∷ most_workers ∷ []

-- capacity, ids given, listed, freed, the list
abbrev pub graph_places : List ℕ
graph_places = graph_capacity ∷ graph_given ∷ graph_listed ∷ graph_freed ∷ graph_list ∷ contact_size ∷ []

-- colliders, bodies, place in the list, the edge's marks, the pair's, count change, speculative distance, cache, manifolds
abbrev pub contact_places : List ℕ
contact_places =
    contact_collider1 ∷ contact_collider2 ∷ contact_body1 ∷ contact_body2 ∷ contact_pair_index ∷ contact_edge_flags ∷ contact_flags ∷ contact_count_change ∷ contact_speculative_distance ∷ contact_cache
    ∷ contact_manifolds ∷ manifold_size ∷ []

-- normal, friction, restitution, tangent velocity, points
abbrev pub manifold_places : List ℕ
manifold_places = manifold_normal ∷ manifold_friction ∷ manifold_restitution ∷ manifold_tangent_velocity ∷ manifold_points ∷ point_size ∷ []

-- anchors, position, penetration and base, normal impulse and speed, warm start impulses, features
abbrev pub point_places : List ℕ
point_places =
    point_anchor1 ∷ point_anchor2 ∷ point_position ∷ point_penetration ∷ point_base_penetration ∷ point_normal_impulse ∷ point_normal_speed ∷ point_warm_start_normal_impulse ∷ point_warm_start_tangent_impulse ∷ point_features ∷ []

-- length; step time, length unit, contact tolerance, recycle distance, squared cosine, match, default friction and restitution, matching
abbrev pub setting_places : List ℕ
setting_places =
    settings_length ∷ settings_step_time ∷ settings_length_unit ∷ settings_contact_tolerance ∷ settings_recycle_distance ∷ settings_recycle_cosine ∷ settings_match_contacts ∷ settings_friction ∷ settings_restitution ∷ settings_matching ∷ []

abbrev pub collider_places : List ℕ
collider_places =
    collider_size ∷ collider_body ∷ collider_lower ∷ collider_upper ∷ collider_position ∷ collider_memberships ∷ collider_filters
    ∷ collider_friction ∷ collider_restitution ∷ collider_margin ∷ collider_sensor ∷ []

abbrev pub body_places : List ℕ
body_places =
    body_size ∷ body_static ∷ body_position ∷ body_rotation ∷ body_center_of_mass ∷ body_linear_velocity ∷ body_angular_velocity ∷ body_friction
    ∷ body_margin ∷ body_speculative_maximum ∷ body_sweep_radius ∷ []

abbrev pub proposal_places : List ℕ
proposal_places =
    proposal_size ∷ proposal_hook ∷ proposal_count ∷ proposal_manifolds ∷ proposed_manifold_size ∷ proposed_manifold_normal ∷ proposed_manifold_points ∷ proposed_point_size ∷ proposed_point_penetration
    ∷ proposed_point_features ∷ []

abbrev pub other_places : List ℕ
other_places = shares_counts ∷ shares_entries ∷ event_size ∷ change_size ∷ []

abbrev pub answer_lengths : List ℕ
answer_lengths =
    request_length ∷ add_answer_length ∷ step_answer_length ∷ look_up_answer_length ∷ prune_normal_length ∷ prune_points_length ∷ prune_answer_length ∷ player_length ∷ play_answer_length ∷ printed_size ∷ lengths_length ∷ layout_length ∷ []

unfoldable pub layout_words : List ℕ
layout_words =
    limit_words ++ graph_places ++ contact_places ++ manifold_places ++ point_places ++ setting_places ++ collider_places ++ body_places ++ proposal_places ++ other_places ++ answer_lengths
