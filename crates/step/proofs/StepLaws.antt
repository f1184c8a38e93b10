-- What a step that is not refused does: the shares in the code's order leave what the active contacts in theirs do, the status pass is ready,
-- the graph after it is checked, and all that is written is what the rules have. Assumes nothing.
use Rattle.std.specs.Prelude.{ℕ, ◌≤◌, ◌<◌, ◌≡◌, Bool, ◌&&◌, Float, length}
use Rattle.std.proofs.Common.{arith, ◌∙◌}
use Rattle.std.proofs.Math.Path.{refl, sym, ap}
use Rattle.std.proofs.Math.Bool.{true, false, cond}
use mathlib.Core.List.{List, [], map, map-map}
use Rattle.std.specs.Float.Ieee.{of_bits, to_bits}
use Rattle.std.proofs.Math.ListN.{get_or}
use Rattle.math.specs.Constants.{zero_f}
use Rattle.rows.specs.Slots.{upto, Distinct}
use Rattle.rules.specs.Graph.{Graph}
use Rattle.rules.specs.Records.{Pair}
use Rattle.rules.specs.Status.{Pass, visit_all, standing_bits, plain_step}
use Rattle.rules.specs.Update.{Updated, updated}
use Rattle.words.specs.Words.{float_word}
use Rattle.data_structures.specs.BitVec.{blocks_of, set_bits}
use Rattle.data_structures.specs.NumberLaws.{numbers_pass, numbers_ascending, numbers_length}
use Rattle.collider.specs.Recorded.{settings_of}
use Rattle.manifold_records.specs.ListLaws.{map_upto_same}
use Rattle.contact_range.specs.Checked.{Checked}
use Rattle.contact_range.specs.Range.{stands}
use Rattle.contact_range.specs.RangeLaws.{first_of_lem}
use Rattle.contact_range.specs.Recorded.{capacity_of, graph_of}
use Rattle.contact_update.specs.OrderLaws.{graph_after_all, any_order}
use Rattle.contact_update.specs.UpdateFitLaws.{FitSettings, settings_fit_read}
use Rattle.status_pass.specs.Pass.{begun, plain_pass, PassReady, RowsReady}
use Rattle.status_pass.specs.PassLaws.{pass_checked, pass_capacity, pass_means}
use Rattle.update_pass.specs.BitsLaws.{entries_active, active_stands, standing_set}
use Rattle.update_pass.specs.ListsLaws.{distances_any, recycled_any}
use Rattle.update_pass.specs.MeaningLaws.{standing_means, recycled_means, distance_means}
use Rattle.update_pass.specs.Shared.{active_of, entries_of, distances_after, distances_of, recycled_of, joined_of, standing_ids}
use Rattle.update_pass.specs.UpdatedAllLaws.{AllReady, AllStand, after_ready, after_stands, after_all_capacity, all_means}
use Rattle.step.specs.AcceptedLaws.{Accepted, accepted, all_ready}
use Rattle.step.specs.Step.{Given, Rows, step_refusal, inputs, made_of, updated_graph, pass_of}

-- ---- the contacts whose status bit stands: contacts of the graph, each once, at most the capacity
module _ (u : ℕ → Updated) (g : List ℕ) where
  ids_stand : (k : ℕ) → k < length (standing_ids u g) → stands g (get_or (standing_ids u g) k 0) ≡ true
  unfolding standing_ids
  ids_stand k b =
      let id = get_or (standing_ids u g) k 0 in
      first_of_lem (stands g id) (u id).bit (numbers_pass (λ i. stands g i && (u i).bit) 0 (capacity_of g) id (k, b, refl)).0

  ids_apart : Distinct (standing_ids u g)
  unfolding standing_ids
  ids_apart j k h b e = omega (arith, numbers_ascending (λ i. stands g i && (u i).bit) 0 (capacity_of g) j k h b)

  ids_few : length (standing_ids u g) ≤ capacity_of g
  unfolding standing_ids
  ids_few = numbers_length (λ i. stands g i && (u i).bit) 0 (capacity_of g)

-- ---- the shares' contacts, worker by worker, leave what the active contacts leave in the list's order
pub record CodeOrder (x : Given) (g : List ℕ) : Type 0 where
  pub graph : graph_after_all (settings_of x.settings) x.colliders x.bodies x.proposals g (entries_of x.shares) ≡ updated_graph x g
  pub distances : (ds : List ℕ) → length ds ≡ capacity_of g → ((k : ℕ) → get_or ds k 0 ≡ 0) → distances_after (made_of x g) ds (entries_of x.shares) ≡ distances_of (made_of x g) g
  pub recycled : recycled_of (made_of x g) (entries_of x.shares) ≡ recycled_of (made_of x g) (active_of g)
  pub bits : set_bits (joined_of (made_of x g) (blocks_of (capacity_of g)) x.shares 8) ≡ standing_ids (made_of x g) g

module _ {x : Given} {g : List ℕ} {l : Rows} (a : Accepted x g l) where
  pub code_order : CodeOrder x g
  code_order =
      let u = made_of x g in
      let n = capacity_of g in
      let ids = entries_of x.shares in
      let e = entries_active x.shares g a.checked a.shares in
      record {
        graph =
            any_order (settings_of x.settings) x.colliders x.bodies x.proposals g ids (active_of g) a.checked.right
            e.entries_below e.active_below e.entries_apart e.active_apart e.same;
        distances = λ ds s z. distances_any u g ds ids s z e.entries_below e.entries_apart e.standing e.listed;
        recycled = recycled_any u n ids (active_of g) e.entries_below e.active_below e.entries_apart e.active_apart e.same;
        bits = standing_set u x.shares g a.checked a.shares;
      }

  -- ---- the updated graph
  fit : FitSettings (settings_of x.settings)
  fit = settings_fit_read x.settings

  active_all : AllStand g (active_of g)
  active_all k b = active_stands g (get_or (active_of g) k 0) (k, b, refl)

  pub updated_ready : AllReady x.colliders x.bodies x.proposals (updated_graph x g)
  updated_ready = after_ready (settings_of x.settings) x.colliders x.bodies x.proposals g fit (all_ready a) (active_of g) active_all

  pub updated_stands : (id : ℕ) → stands (updated_graph x g) id ≡ stands g id
  updated_stands id = after_stands (settings_of x.settings) x.colliders x.bodies x.proposals g fit (all_ready a) (active_of g) active_all id

  pub updated_capacity : capacity_of (updated_graph x g) ≡ capacity_of g
  updated_capacity = after_all_capacity (settings_of x.settings) x.colliders x.bodies x.proposals g fit (all_ready a) (active_of g) active_all

  -- ---- the status pass is ready
  pub pass_ready : PassReady (begun (updated_graph x g)) (standing_ids (made_of x g) g)
  pass_ready =
      record {
        checked = updated_ready.checked;
        standing = λ k b. updated_stands (get_or (standing_ids (made_of x g) g) k 0) ∙ ids_stand (made_of x g) g k b;
        distinct = ids_apart (made_of x g) g;
      }

  pub rows_ready : RowsReady (updated_graph x g) l.events l.changes (standing_ids (made_of x g) g)
  rows_ready =
      let few = ids_few (made_of x g) g in
      record { ready = pass_ready; event_room = omega (arith, a.event_words); change_room = omega (arith, a.change_words) }

-- ---- the graph after a step
module _ (x : Given) (g : List ℕ) (l : Rows) (e : step_refusal x g l ≡ 0) where
  pub step_checked : Checked (pass_of x g).graph
  unfolding pass_of
  step_checked = pass_checked (begun (updated_graph x g)) (standing_ids (made_of x g) g) (pass_ready (accepted x g l e))

  pub step_capacity : capacity_of (pass_of x g).graph ≡ capacity_of g
  unfolding pass_of
  step_capacity = let a = accepted x g l e in pass_capacity (begun (updated_graph x g)) (standing_ids (made_of x g) g) (pass_ready a) ∙ updated_capacity a

-- ---- a step does to what the words record what the rules do
pub record StepMeans (x : Given) (g : List ℕ) : Type 0 where
  pub graph : graph_of (pass_of x g).graph ≡ (plain_step (inputs x) (graph_of g)).graph
  pub events : (pass_of x g).events ≡ (plain_step (inputs x) (graph_of g)).events
  pub changes : (pass_of x g).changes ≡ (plain_step (inputs x) (graph_of g)).changes
  pub recycled : recycled_of (made_of x g) (active_of g) ≡ (plain_step (inputs x) (graph_of g)).recycled
  pub distances : distances_of (made_of x g) g ≡ map (λ id. float_word ((plain_step (inputs x) (graph_of g)).max_contact_distance id)) (upto (plain_step (inputs x) (graph_of g)).graph.capacity)

-- the pass of a plain step
abbrev plain_pass_of : Given → List ℕ → Pass
plain_pass_of x g =
    record {
      graph = (plain_step (inputs x) (graph_of g)).graph;
      events = (plain_step (inputs x) (graph_of g)).events;
      changes = (plain_step (inputs x) (graph_of g)).changes;
    }

-- +0 is the word 0
zero_distance : 0 ≡ float_word zero_f
unfolding of_bits to_bits
zero_distance = refl

module _ {x : Given} {g : List ℕ} {l : Rows} (a : Accepted x g l) where
  abbrev updates : List Updated
  updates = map (updated (inputs x)) (graph_of g).pairs

  abbrev updated_pairs : List Pair → Graph
  updated_pairs ps = record { capacity = (graph_of g).capacity; given = (graph_of g).given; free = (graph_of g).free; pairs = ps }

  graph_means : graph_of (updated_graph x g) ≡ updated_pairs (map (λ (u : Updated). u.pair) updates)
  graph_means =
      all_means (settings_of x.settings) x.colliders x.bodies x.proposals g (fit a) (all_ready a)
      ∙ ap updated_pairs (sym (map-map (λ (u : Updated). u.pair) (updated (inputs x)) (graph_of g).pairs))

  ids_mean : standing_ids (made_of x g) g ≡ standing_bits 0 (graph_of g).capacity updates
  unfolding graph_of
  ids_mean = sym (standing_means (settings_of x.settings) x.colliders x.bodies x.proposals g)

  pass_of_means : plain_pass (pass_of x g) ≡ plain_pass_of x g
  unfolding pass_of plain_step
  pass_of_means =
      sym (pass_means (begun (updated_graph x g)) (standing_ids (made_of x g) g) (pass_ready a))
      ∙ (λ i. visit_all (record { graph = graph_means i; events = []; changes = [] }) (ids_mean i))

  recycled_of_means : recycled_of (made_of x g) (active_of g) ≡ (plain_step (inputs x) (graph_of g)).recycled
  unfolding plain_step
  recycled_of_means = sym (recycled_means (settings_of x.settings) x.colliders x.bodies x.proposals g)

  distance_word_lem : (id : ℕ) → cond (stands g id) (float_word (made_of x g id).max_contact_distance) 0 ≡ float_word ((plain_step (inputs x) (graph_of g)).max_contact_distance id)
  unfolding plain_step
  distance_word_lem id =
      go (stands g id) ∙ ap (λ (f : Float). float_word f) (sym (distance_means (settings_of x.settings) x.colliders x.bodies x.proposals g id))
    where
      go : (t : Bool) → cond t (float_word (made_of x g id).max_contact_distance) 0 ≡ float_word (cond t (made_of x g id).max_contact_distance zero_f)
      go true = refl
      go false = zero_distance

  capacity_means : (plain_step (inputs x) (graph_of g)).graph.capacity ≡ capacity_of g
  unfolding graph_of pass_of
  capacity_means =
      ap (λ (s : Pass). s.graph.capacity) (sym pass_of_means)
      ∙ pass_capacity (begun (updated_graph x g)) (standing_ids (made_of x g) g) (pass_ready a) ∙ updated_capacity a

  distances_mean : distances_of (made_of x g) g ≡ map (λ id. float_word ((plain_step (inputs x) (graph_of g)).max_contact_distance id)) (upto (plain_step (inputs x) (graph_of g)).graph.capacity)
  unfolding distances_of
  distances_mean =
      map_upto_same _ _ (capacity_of g) (λ id b. distance_word_lem id)
      ∙ ap (λ (n : ℕ). map (λ id. float_word ((plain_step (inputs x) (graph_of g)).max_contact_distance id)) (upto n)) (sym capacity_means)

pub step_means : (x : Given) (g : List ℕ) (l : Rows) → step_refusal x g l ≡ 0 → StepMeans x g
step_means x g l e =
    let a = accepted x g l e in
    let p = pass_of_means a in
    record {
      graph = ap (λ (s : Pass). s.graph) p;
      events = ap (λ (s : Pass). s.events) p;
      changes = ap (λ (s : Pass). s.changes) p;
      recycled = recycled_of_means a;
      distances = distances_mean a;
    }
