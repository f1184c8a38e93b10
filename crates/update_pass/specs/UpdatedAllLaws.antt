-- The updates of several contacts, one after another: each leaves the others ready and as the rules would make them,
-- and all together do to the words what the rules do to the plain graph. Assumes nothing.
use Prim.Native.Nat.{ℕ, zero, suc, ◌*◌, ◌<◌, suc-le-suc}
use Rattle.std.proofs.Math.Nat.{zero-lt-suc}
use Rattle.std.proofs.Common.{not-suc-le-zero, le_of_suc-le-suc, subst, ◌∙◌, ne_eqb, eqb-true}
use Rattle.std.specs.Prelude.{◌≡◌, ◌≢◌, Bool, true, false, eqb, length, get_or}
use Rattle.std.proofs.Math.Path.{refl, sym, ap}
use Rattle.std.proofs.Math.Bool.{cond}
use mathlib.Core.List.{List, [], ◌∷◌, ◌++◌, map, map-map, map-id}
use Rattle.std.proofs.lemmas.Bool.{eqb-false}
use Rattle.rows.specs.Slots.{upto, Listed, Distinct}
use Rattle.rows.specs.SlotLaws.{listed_tail}
use Rattle.rules.specs.Graph.{Graph}
use Rattle.rules.specs.Inputs.{Settings, Inputs}
use Rattle.rule_laws.specs.OutcomeLaws.{names_kept}
use Rattle.rules.specs.Records.{Names, Pair}
use Rattle.rules.specs.Update.{updated}
use Rattle.manifold_records.specs.ListLaws.{map_upto_same}
use Rattle.contact_graph.specs.AddedGraphLaws.{listed_pair}
use Rattle.contact_range.specs.Checked.{Checked}
use Rattle.contact_range.specs.Range.{stands}
use Rattle.contact_range.specs.RangeLaws.{stands_at, standing_below}
use Rattle.contact_range.specs.Recorded.{capacity_of, listed_count, listed_at, graph_of}
use Rattle.contact_graph.specs.RemovedGraphLaws.{pair_id}
use Rattle.layout.specs.Proposal.{proposal_size}
use Rattle.contact_update.specs.After.{graph_after, inputs_of}
use Rattle.contact_update.specs.Contact.{ContactReady, update_of}
use Rattle.contact_update.specs.GraphLaws.{after_capacity, stands_kept}
use Rattle.contact_update.specs.OrderLaws.{graph_after_all, others_unaffected}
use Rattle.contact_update.specs.Plain.{pair_updated, plain_update}
use Rattle.contact_update.specs.UpdateFitLaws.{FitSettings}
use Rattle.contact_update.specs.UpdateLaws.{update_keeps, update_means}
use Rattle.update_pass.specs.BitsLaws.{active_distinct, active_stands, stands_active}
use Rattle.update_pass.specs.Shared.{active_of}

-- each contact of the graph can be updated
pub record AllReady (colliders bodies proposals g : List ℕ) : Type 0 where
  pub each : (id : ℕ) → stands g id ≡ true → ContactReady colliders bodies proposals g id
  pub checked : Checked g

-- the list names contacts that stand
abbrev pub AllStand : List ℕ → List ℕ → Type 0
AllStand g ids = (k : ℕ) → k < length ids → stands g (get_or ids k 0) ≡ true

module _ (s : Settings) (colliders bodies proposals : List ℕ) where
  abbrev after : List ℕ → ℕ → List ℕ
  after g id = graph_after s colliders bodies proposals g id

  abbrev all : List ℕ → List ℕ → List ℕ
  all g ids = graph_after_all s colliders bodies proposals g ids

  -- one contact more
  pub after_all_next : (g : List ℕ) (ids : List ℕ) (id : ℕ) → all g (ids ++ id ∷ []) ≡ after (all g ids) id
  unfolding graph_after_all
  after_all_next g [] id = refl
  after_all_next g (i ∷ ids) id = after_all_next (after g i) ids id

  -- ---- one update
  module _ (g : List ℕ) (fit : FitSettings s) (ready : AllReady colliders bodies proposals g) (id : ℕ) (st : stands g id ≡ true) where
    one_capacity : capacity_of (after g id) ≡ capacity_of g
    one_capacity = after_capacity s colliders bodies proposals id ready.checked.right (standing_below ready.checked.range id st)

    one_stands : (j : ℕ) → stands (after g id) j ≡ stands g j
    one_stands j = stands_kept s colliders bodies proposals id ready.checked st j

    one_checked : Checked (after g id)
    one_checked = update_keeps s colliders bodies proposals id g (ready.each id st) fit

    one_each : (j : ℕ) → stands (after g id) j ≡ true → ContactReady colliders bodies proposals (after g id) j
    one_each j e =
        let r = ready.each j (sym (one_stands j) ∙ e) in
        record {
          collider_words = r.collider_words;
          body_words = r.body_words;
          proposal_words = r.proposal_words ∙ ap (λ (n : ℕ). n * proposal_size) (sym one_capacity);
          colliders_fit_lem = r.colliders_fit_lem;
          proposed = r.proposed;
          checked = one_checked;
          standing = e;
        }

    one_ready : AllReady colliders bodies proposals (after g id)
    one_ready = record { each = one_each; checked = one_checked }

    -- the rest of a list still stands
    rest_stands : (ids : List ℕ) → AllStand g (id ∷ ids) → AllStand (after g id) ids
    rest_stands ids h k l = one_stands (get_or ids k 0) ∙ h (suc k) (suc-le-suc l)

  -- ---- the updates of a list
  pub after_ready : (g : List ℕ) → FitSettings s → AllReady colliders bodies proposals g → (ids : List ℕ) → AllStand g ids → AllReady colliders bodies proposals (all g ids)
  unfolding graph_after_all
  after_ready g fit r [] h = r
  after_ready g fit r (id ∷ ids) h =
      let st = h zero (zero-lt-suc (length ids)) in
      after_ready (after g id) fit (one_ready g fit r id st) ids (rest_stands g fit r id st ids h)

  pub after_stands : (g : List ℕ) → FitSettings s → AllReady colliders bodies proposals g → (ids : List ℕ) → AllStand g ids → (j : ℕ) → stands (all g ids) j ≡ stands g j
  unfolding graph_after_all
  after_stands g fit r [] h j = refl
  after_stands g fit r (id ∷ ids) h j =
      let st = h zero (zero-lt-suc (length ids)) in
      after_stands (after g id) fit (one_ready g fit r id st) ids (rest_stands g fit r id st ids h) j ∙ one_stands g fit r id st j

  pub after_all_capacity : (g : List ℕ) → FitSettings s → AllReady colliders bodies proposals g → (ids : List ℕ) → AllStand g ids → capacity_of (all g ids) ≡ capacity_of g
  unfolding graph_after_all
  after_all_capacity g fit r [] h = refl
  after_all_capacity g fit r (id ∷ ids) h =
      let st = h zero (zero-lt-suc (length ids)) in
      after_all_capacity (after g id) fit (one_ready g fit r id st) ids (rest_stands g fit r id st ids h) ∙ one_capacity g fit r id st

  -- what the rules make of a contact that is not of the list
  pub unaffected : (g : List ℕ) → FitSettings s → AllReady colliders bodies proposals g → (ids : List ℕ) → AllStand g ids → (j : ℕ) → stands g j ≡ true
      → ((k : ℕ) → k < length ids → get_or ids k 0 ≢ j) → update_of s colliders bodies proposals j (all g ids) ≡ update_of s colliders bodies proposals j g
  unfolding graph_after_all
  unaffected g fit r [] h j e n = refl
  unaffected g fit r (id ∷ ids) h j e n =
      let st = h zero (zero-lt-suc (length ids)) in
      unaffected (after g id) fit (one_ready g fit r id st) ids (rest_stands g fit r id st ids h) j (one_stands g fit r id st j ∙ e) (λ k l. n (suc k) (suc-le-suc l))
      ∙ others_unaffected s colliders bodies proposals g id j (λ q. n zero (zero-lt-suc (length ids)) (sym q)) (r.each id st) (r.each j e) fit

-- ---- the plain pairs, updated in turn
module _ (i : Inputs) where
  unfoldable pub pair_after : List ℕ → Pair → Pair
  pair_after [] p = p
  pair_after (id ∷ ids) p = pair_after ids (pair_updated i id p)

  own_updated : (id : ℕ) (p : Pair) → eqb p.names.id id ≡ true → pair_updated i id p ≡ (updated i p).pair
  unfolding pair_updated
  own_updated id p e = ap (λ (t : Bool). cond t (updated i p).pair p) e

  other_updated : (id : ℕ) (p : Pair) → eqb p.names.id id ≡ false → pair_updated i id p ≡ p
  unfolding pair_updated
  other_updated id p e = ap (λ (t : Bool). cond t (updated i p).pair p) e

  -- a pair that the list does not name
  pair_kept : (ids : List ℕ) (p : Pair) → (Listed ids p.names.id → ⊥) → pair_after ids p ≡ p
  unfolding pair_after
  pair_kept [] p n = refl
  pair_kept (id ∷ ids) p n =
      ap (pair_after ids) (other_updated id p (ne_eqb p.names.id id (λ e. n (zero, zero-lt-suc (length ids), sym e))))
      ∙ pair_kept ids p (λ m. n (listed_tail id ids m))

  -- and one that it names once
  pub pair_once : (ids : List ℕ) (p : Pair) → Distinct ids → Listed ids p.names.id → pair_after ids p ≡ (updated i p).pair
  unfolding pair_after
  pair_once [] p d m = absurd (not-suc-le-zero m.1)
  pair_once (id ∷ ids) p d m = go (eqb p.names.id id) refl (pair_once ids p (λ j k l b. d (suc j) (suc k) (suc-le-suc l) (suc-le-suc b)))
    where
      same_id : (updated i p).pair.names.id ≡ p.names.id
      same_id = ap (λ (n : Names). n.id) (names_kept i p)

      later : eqb p.names.id id ≡ false → Listed (id ∷ ids) p.names.id → Listed ids p.names.id
      later e (zero, l, q) = absurd (eqb-false p.names.id id e (sym q))
      later e (suc k, l, q) = (k, le_of_suc-le-suc l, q)

      gone : eqb p.names.id id ≡ true → Listed ids (updated i p).pair.names.id → ⊥
      gone e (k, l, q) = d zero (suc k) (zero-lt-suc k) (suc-le-suc l) (sym (q ∙ same_id ∙ eqb-true p.names.id id e))

      go : (t : Bool) → eqb p.names.id id ≡ t → (Listed ids p.names.id → pair_after ids p ≡ (updated i p).pair) → pair_after ids (pair_updated i id p) ≡ (updated i p).pair
      go true e r = ap (pair_after ids) (own_updated id p e) ∙ pair_kept ids (updated i p).pair (gone e)
      go false e r = ap (pair_after ids) (other_updated id p e) ∙ r (later e m)

-- the graph with other pairs
abbrev with_pairs : Graph → List Pair → Graph
with_pairs g ps = record { capacity = g.capacity; given = g.given; free = g.free; pairs = ps }

module _ (s : Settings) (colliders bodies proposals : List ℕ) where
  abbrev inputs : Inputs
  inputs = inputs_of s colliders bodies proposals

  -- the updates of a list, on the plain graph
  pub after_means : (g : List ℕ) → FitSettings s → AllReady colliders bodies proposals g → (ids : List ℕ) → AllStand g ids
      → graph_of (graph_after_all s colliders bodies proposals g ids) ≡ with_pairs (graph_of g) (map (pair_after inputs ids) (graph_of g).pairs)
  unfolding graph_after_all pair_after plain_update
  after_means g fit r [] h = ap (with_pairs (graph_of g)) (sym (map-id (graph_of g).pairs))
  after_means g fit r (id ∷ ids) h =
      let st = h zero (zero-lt-suc (length ids)) in
      let next = graph_after s colliders bodies proposals g id in
      after_means next fit (one_ready s colliders bodies proposals g fit r id st) ids (rest_stands s colliders bodies proposals g fit r id st ids h)
      ∙ ap (λ (p : Graph). with_pairs p (map (pair_after inputs ids) p.pairs)) (update_means s colliders bodies proposals id g (r.each id st) fit)
      ∙ ap (with_pairs (graph_of g)) (map-map (pair_after inputs ids) (pair_updated inputs id) (graph_of g).pairs)

  -- each pair of the graph is named once
  pairs_once_lem : (g : List ℕ) → Checked g → map (pair_after inputs (active_of g)) (graph_of g).pairs ≡ map (λ (p : Pair). (updated inputs p).pair) (graph_of g).pairs
  unfolding graph_of
  pairs_once_lem g c =
      let n = listed_count g in
      map-map (pair_after inputs (active_of g)) (listed_pair g) (upto n)
      ∙ map_upto_same (λ k. pair_after inputs (active_of g) (listed_pair g k)) (λ k. (updated inputs (listed_pair g k)).pair) n
      (λ k l. pair_once inputs (active_of g) (listed_pair g k) (active_distinct g c)
      (subst (Listed (active_of g)) (sym (pair_id g k)) (stands_active g (listed_at g k) (stands_at g k l))))
      ∙ sym (map-map (λ (p : Pair). (updated inputs p).pair) (listed_pair g) (upto n))

  -- all contacts of the graph: each pair as the rules update it
  pub all_means : (g : List ℕ) → FitSettings s → AllReady colliders bodies proposals g
      → graph_of (graph_after_all s colliders bodies proposals g (active_of g))
      ≡ record {
        capacity = (graph_of g).capacity;
        given = (graph_of g).given;
        free = (graph_of g).free;
        pairs = map (λ (p : Pair). (updated (inputs_of s colliders bodies proposals) p).pair) (graph_of g).pairs;
      }
  all_means g fit r =
      after_means g fit r (active_of g) (λ k l. active_stands g (get_or (active_of g) k 0) (k, l, refl))
      ∙ ap (with_pairs (graph_of g)) (pairs_once_lem g r.checked)
