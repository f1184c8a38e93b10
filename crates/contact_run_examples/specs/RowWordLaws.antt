-- Words of the rows that the steps of `Calls` are lent, after them. Assumes nothing.
use Rattle.std.specs.Prelude.{◌≡◌, refl, [], ◌∷◌}
use Rattle.rows.specs.Rows.{put}
use Rattle.data_structures.specs.BitVec.{marked}
use Rattle.manifold_records.specs.Written.{zeros}
use Rattle.contact_records.specs.Written.{optional_words, int_word}
use Rattle.layout.specs.Change.{change_size}
use Rattle.layout.specs.Event.{event_size}
use Rattle.status_pass.specs.EventsAndChanges.{event_words, change_words}
use Rattle.update_pass.specs.Shared.{share_of, bits_after, worker_bits, parts_of, distances_of}
use Rattle.step.specs.Step.{rows_of}
use Rattle.contact_run_examples.specs.AnswerLaws.{opened, touching_pass, doubling_pass, parting_pass, meeting_pass}
use Rattle.contact_run_examples.specs.Calls.{one_worker, two_workers, resting, anew, together, rows, used_rows, second, rested, doubled, readded}
use Rattle.contact_run_examples.specs.NextLaws.{event_row_lem, change_row_lem}

-- ---- events: contact 0 starts and ends; contacts 0 and 1 start
pub touching_events : (rows_of (resting 0 (one_worker 2)) second rows).events ≡ 0 ∷ 0 ∷ 0 ∷ 1 ∷ 1 ∷ 0 ∷ 1 ∷ 1 ∷ zeros event_size
unfolding rows event_words optional_words zeros put
touching_events = event_row_lem (resting 0 (one_worker 2)) second rows touching_pass

pub parting_events : (rows_of (anew 0) doubled rows).events ≡ 1 ∷ 0 ∷ 0 ∷ 1 ∷ 1 ∷ 0 ∷ 1 ∷ 1 ∷ zeros event_size
unfolding rows event_words optional_words zeros put
parting_events = event_row_lem (anew 0) doubled rows parting_pass

pub meeting_events : (rows_of together readded rows).events ≡ 0 ∷ 0 ∷ 0 ∷ 1 ∷ 1 ∷ 0 ∷ 1 ∷ 1 ∷ 0 ∷ 1 ∷ 0 ∷ 2 ∷ 1 ∷ 0 ∷ 1 ∷ 2 ∷ []
unfolding rows event_words optional_words zeros put
meeting_events = event_row_lem together readded rows meeting_pass

-- ---- changes: one manifold more; a stop; two starts
pub doubling_changes : (rows_of (anew 2) rested rows).changes ≡ 2 ∷ 0 ∷ 0 ∷ 1 ∷ 1 ∷ zeros change_size
unfolding rows change_words int_word zeros put
doubling_changes = change_row_lem (anew 2) rested rows doubling_pass

pub parting_changes : (rows_of (anew 0) doubled rows).changes ≡ 1 ∷ 0 ∷ 0 ∷ 1 ∷ 0 ∷ zeros change_size
unfolding rows change_words int_word zeros put
parting_changes = change_row_lem (anew 0) doubled rows parting_pass

pub meeting_changes : (rows_of together readded rows).changes ≡ 0 ∷ 0 ∷ 0 ∷ 0 ∷ 0 ∷ 0 ∷ 1 ∷ 0 ∷ 0 ∷ 0 ∷ []
unfolding rows change_words int_word zeros put
meeting_changes = change_row_lem together readded rows meeting_pass

-- ---- contact distances: the tolerance; +0 for a disjoint contact
pub touching_distances : (rows_of (resting 0 (one_worker 2)) second rows).distances ≡ 0x3ba3_d70a ∷ 0 ∷ []
unfolding opened rows_of distances_of
touching_distances = refl

-- ---- bit words: both contacts' bits in the only worker's part, or each in its worker's; what the words held before is gone
pub one_worker_bits : (rows_of (resting 0 (one_worker 2)) second rows).bits ≡ 3 ∷ zeros 7
unfolding opened rows_of parts_of worker_bits bits_after share_of marked
one_worker_bits = refl

pub two_worker_bits : (rows_of (resting 0 two_workers) second used_rows).bits ≡ 2 ∷ 1 ∷ zeros 6
unfolding opened rows_of parts_of worker_bits bits_after share_of marked
two_worker_bits = refl
