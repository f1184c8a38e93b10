-- What a step computes by, opened group by group for cases with numbers. Definitions only.
use Rattle.words.specs.Words.{if_marked}
use Rattle.std.specs.Prelude.{ℕ}
use Rattle.std.specs.Float.Ieee.{of_bits, to_bits, lt, le, is_nan, add, sub, mul, neg, ne, eq, fits}
use Rattle.math.specs.Choose.{maximum, minimum}
use Rattle.math.specs.Mat.{matrix, ◌*m◌}
use Rattle.math.specs.Pose.{relative}
use Rattle.math.specs.Quat.{axis, dot4, times, inverse, rotate, chord_length}
use Rattle.math.specs.Root.{root_of, root}
use Rattle.math.specs.Vec.{◌+v◌, ◌-v◌, ◌*v◌, dot, cross, squared_length, squared_distance, length3, clamp_length, reject}
use Rattle.rules.specs.Filtering.{moved_anchor, normal_speed_at, moved_point, stays, staying, pruned, filtered, without_empty}
use Rattle.rules.specs.Matching.{by_number, by_place, anchors_match, source, matched_point, match_contacts, match_all}
use Rattle.rules.specs.Numbers as numbers
use Rattle.rules.specs.Pruning.{projected, weight, point1, point2, side_value, point3, point4, kept_beside, kept_from, kept}
use Rattle.rules.specs.Recycling.{scaled_tolerance, scaled_recycle, tolerance_for, radius, least_squared_dot, squared_motion, arc, recycles, delta_separation, recycled_point, recycled_manifold}
use Rattle.rules.specs.Sides.{overlap, interact, side_of}
use Rattle.rules.specs.Surface.{ruled, combine, friction_of, restitution_of, margin_of, clamped_velocity, swept_distance, effective_speculative_of, surface_of}
use Rattle.rules.specs.Update.{disjoint, recycled_pair, enabled, hooked, matched, change_of, remaining, renewed_flags, status_bit, renewed, overlapping, updated_between, updated}
use Rattle.collider.specs.Range.{settings_fit, collider_fits, colliders_fit, body_fits, bodies_fit}
use Rattle.collider.specs.Recorded.{mark_or, settings_of, present_collider, collider_at, present_body, body_at}
use Rattle.proposals.specs.Range.{proposal_fits, hook_fits}
use Rattle.proposals.specs.Recorded.{proposed_point_at, proposed_points_at, proposed_manifold_at, proposal_at, hook_at}
use Rattle.rows.specs.Rows.{part, put}
use Rattle.rows.specs.Slots.{upto, update_at}
use Rattle.manifold_records.specs.Recorded.{point_at, points_at, manifold_at, manifolds_at}
use Rattle.manifold_records.specs.Written.{zeros, padded, point_words, manifold_words, manifolds_words}
use Rattle.contact_records.specs.Recorded.{cache_at, flags_at, names_at, edge_at, pair_at}
use Rattle.contact_records.specs.Written.{optional_words, int_word, cache_words, flags_words, names_words, edge_words, state_words, contact_words}
use Rattle.contact_graph.specs.Calls.{lay_out_refusal, laid_out, request_fits, pair_stands, add_refusal, new_id_of, added_words, removed_words}
use Rattle.contact_range.specs.Range.{right_length, names_fit, marks_fit, manifolds_fit, contact_fits, counts_fit, listed_given, names_back, contacts_fit, free_given, free_once, stands, is_free, free_apart, given_known, same_colliders, same_pair, pairs_once, in_range}
use Rattle.data_structures.specs.BitVec.{blocks_of, numbers_with}
use Rattle.contact_update.specs.After.{points_put, manifolds_put, after_words, record_updated, record_after, graph_after, inputs_of}
use Rattle.contact_update.specs.Contact.{update_of}
use Rattle.contact_update.specs.OrderLaws.{graph_after_all}
use Rattle.shares.specs.Shares as shares
use Rattle.status_pass.specs.Pass.{settled_graph, visited_graph, visit_words, pass_words}
use Rattle.status_pass.specs.Settled.{settled_words}
use Rattle.update_pass.specs.Shared.{active_of, recycled_of, standing_ids}
use Rattle.contact_runs.specs.Solver.{stored, write_word, write_words}
use Rattle.step.specs.Step.{given_long, rows_long, lengths_fit, hooks_fit, rows_in_range, proposals_fit, step_refusal, pass_of, answer_of}

-- floats
unfoldable pub opened_floats : ℕ
unfolding of_bits to_bits lt le is_nan add sub mul neg ne eq fits maximum minimum root_of root
opened_floats = 0

-- vectors, rotations and poses
unfoldable pub opened_vectors : ℕ
unfolding matrix ◌*m◌ relative axis dot4 times inverse rotate chord_length ◌+v◌ ◌-v◌ ◌*v◌ dot cross squared_length squared_distance length3 clamp_length reject
opened_vectors = 0

-- proposed manifolds, filtered and pruned
unfoldable pub opened_filtering : ℕ
unfolding moved_anchor normal_speed_at moved_point stays staying pruned filtered without_empty projected weight point1 point2 side_value point3 point4 kept_beside kept_from kept
opened_filtering = 0

-- matching, and searches through numbers
unfoldable pub opened_matching : ℕ
unfolding by_number by_place anchors_match source matched_point match_contacts match_all numbers.first numbers.leader numbers.every numbers.any
opened_matching = 0

-- recycling, and what is read of each side
unfoldable pub opened_recycling : ℕ
unfolding scaled_tolerance scaled_recycle tolerance_for radius least_squared_dot squared_motion arc recycles delta_separation recycled_point recycled_manifold overlap interact side_of
opened_recycling = 0

-- surfaces, and one pair's update
unfoldable pub opened_update : ℕ
unfolding ruled combine friction_of restitution_of margin_of clamped_velocity swept_distance effective_speculative_of surface_of disjoint recycled_pair enabled hooked matched change_of remaining renewed_flags status_bit renewed overlapping updated_between updated
opened_update = 0

-- colliders and bodies
unfoldable pub opened_colliders : ℕ
unfolding settings_fit collider_fits colliders_fit body_fits bodies_fit mark_or if_marked settings_of present_collider collider_at present_body body_at
opened_colliders = 0

-- proposals
unfoldable pub opened_proposals : ℕ
unfolding proposal_fits hook_fits proposed_point_at proposed_points_at proposed_manifold_at proposal_at hook_at
opened_proposals = 0

-- a contact's record
unfoldable pub opened_records : ℕ
unfolding part put upto update_at point_at points_at manifold_at manifolds_at cache_at flags_at names_at edge_at pair_at zeros padded optional_words int_word point_words manifold_words manifolds_words cache_words flags_words names_words edge_words state_words contact_words
opened_records = 0

-- lay out, add and remove
unfoldable pub opened_calls : ℕ
unfolding lay_out_refusal laid_out request_fits pair_stands add_refusal new_id_of added_words removed_words
opened_calls = 0

-- refusals 1 and 2 of a graph
unfoldable pub opened_range : ℕ
unfolding right_length names_fit marks_fit manifolds_fit contact_fits counts_fit listed_given names_back contacts_fit free_given free_once stands is_free free_apart given_known same_colliders same_pair pairs_once in_range
opened_range = 0

-- the updates of a graph's contacts
unfoldable pub opened_updates : ℕ
unfolding points_put manifolds_put after_words record_updated record_after graph_after inputs_of update_of graph_after_all active_of recycled_of standing_ids
opened_updates = 0

-- the status pass, over the standing bits
unfoldable pub opened_pass : ℕ
unfolding blocks_of numbers_with settled_graph visited_graph visit_words pass_words settled_words
opened_pass = 0

-- the shares and the step
unfoldable pub opened_step : ℕ
unfolding shares.start_of shares.times shares.counts_fit shares.entries_stand shares.active_once shares.shares_fit given_long rows_long lengths_fit hooks_fit rows_in_range proposals_fit step_refusal pass_of answer_of
opened_step = 0

-- a solver's writes
unfoldable pub opened_solver : ℕ
unfolding stored write_word write_words
opened_solver = 0

-- all of them
unfoldable pub opened_steps : ℕ
unfolding opened_floats opened_vectors opened_filtering opened_matching opened_recycling opened_update opened_colliders opened_proposals opened_records opened_calls opened_range opened_updates opened_pass opened_step opened_solver
opened_steps = 0
