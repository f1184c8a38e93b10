-- The standing bits, the distances and the number recycled, as the rules have them of the plain pairs, are those of the graph's words. Assumes nothing.
use Rattle.std.specs.Prelude.{ℕ, zero, suc, ◌+◌, ◌≡◌, Bool, ◌&&◌, ◌||◌}
use Rattle.std.proofs.Math.Path.{refl, ap}
use Rattle.std.proofs.Common.{◌∙◌, eqb-true}
use Rattle.std.proofs.Math.Bool.{true, false, cond}
use mathlib.Core.List.{List, [], ◌∷◌, map, map-map}
use Rattle.std.proofs.Math.Dec.{eqb}
use Rattle.math.specs.Constants.{zero_f}
use Rattle.rows.specs.Slots.{upto}
use Rattle.rules.specs.Inputs.{Settings, Inputs}
use Rattle.rule_laws.specs.OutcomeLaws.{names_kept}
use Rattle.rules.specs.Records.{Names}
use Rattle.rules.specs.Status.{bit_of, standing_bits, max_contact_distance_of, recycled_count}
use Rattle.rules.specs.Update.{is_recycled, Updated, updated}
use Rattle.data_structures.specs.BitVec.{numbers_with}
use Rattle.data_structures.specs.NumberLaws.{numbers_same}
use Rattle.contact_graph.specs.AddedGraphLaws.{listed_pair}
use Rattle.contact_range.specs.Range.{stands}
use Rattle.contact_range.specs.Recorded.{capacity_of, listed_count, listed_at, graph_of}
use Rattle.contact_graph.specs.RemovedGraphLaws.{pair_id}
use Rattle.contact_update.specs.After.{inputs_of}
use Rattle.contact_update.specs.Contact.{update_of}
use Rattle.update_pass.specs.BitsLaws.{active_stands, stands_active}
use Rattle.update_pass.specs.ListsLaws.{listed_in, same_listed}
use Rattle.update_pass.specs.Shared.{active_of, recycled_of, standing_ids}

-- ---- looked up by id
module _ {A : Type 0} (value : Updated → A) (none : A) where
  -- the value of the first update of that id
  unfoldable value_of : List Updated → ℕ → A
  value_of [] id = none
  value_of (u ∷ us) id = cond (eqb u.pair.names.id id) (value u) (value_of us id)

  -- updates by number, the ids of which are known, and of one id all have one value
  value_found : (f : ℕ → Updated) (key : ℕ → ℕ) (id : ℕ) (v : A) → ((k : ℕ) → (f k).pair.names.id ≡ key k) → ((k : ℕ) → key k ≡ id → value (f k) ≡ v)
      → (ns : List ℕ) → value_of (map f ns) id ≡ cond (listed_in (map key ns) id) v none
  unfolding value_of listed_in
  value_found f key id v e h [] = refl
  value_found f key id v e h (k ∷ ns) =
      ap (λ (n : ℕ). cond (eqb n id) (value (f k)) (value_of (map f ns) id)) (e k) ∙ go (eqb (key k) id) refl (value_found f key id v e h ns)
    where
      go : (t : Bool) → eqb (key k) id ≡ t → value_of (map f ns) id ≡ cond (listed_in (map key ns) id) v none
          → cond t (value (f k)) (value_of (map f ns) id) ≡ cond (t || listed_in (map key ns) id) v none
      go true q r = h k (eqb-true (key k) id q)
      go false q r = r

bit_value : (us : List Updated) (id : ℕ) → bit_of id us ≡ value_of (λ (u : Updated). u.bit) false us id
unfolding bit_of value_of
bit_value [] id = refl
bit_value (u ∷ us) id = ap (cond (eqb u.pair.names.id id) u.bit) (bit_value us id)

distance_value : (us : List Updated) (id : ℕ) → max_contact_distance_of us id ≡ value_of (λ (u : Updated). u.max_contact_distance) zero_f us id
unfolding max_contact_distance_of value_of
distance_value [] id = refl
distance_value (u ∷ us) id = ap (cond (eqb u.pair.names.id id) u.max_contact_distance) (distance_value us id)

-- the standing bits are the numbers that have one
standing_numbers : (us : List Updated) (from k : ℕ) → standing_bits from k us ≡ numbers_with (λ id. bit_of id us) from k
unfolding standing_bits numbers_with
standing_numbers us from zero = refl
standing_numbers us from (suc k) = ap (λ (ns : List ℕ). cond (bit_of from us) (from ∷ ns) ns) (standing_numbers us (suc from) k)

recycled_numbers : (u : ℕ → Updated) (f : ℕ → Updated) (key : ℕ → ℕ) → ((k : ℕ) → f k ≡ u (key k)) → (ns : List ℕ) → recycled_count (map f ns) ≡ recycled_of u (map key ns)
unfolding recycled_count recycled_of
recycled_numbers u f key e [] = refl
recycled_numbers u f key e (k ∷ ns) = λ i. cond (is_recycled (e k i).way) 1 0 + recycled_numbers u f key e ns i

-- ---- the pairs of a graph
module _ (s : Settings) (colliders bodies proposals g : List ℕ) where
  abbrev inputs : Inputs
  inputs = inputs_of s colliders bodies proposals

  abbrev updates : List Updated
  updates = map (updated inputs) (graph_of g).pairs

  abbrev own : ℕ → Updated
  own id = update_of s colliders bodies proposals id g

  -- the update of the pair at a place of the list
  abbrev at : ℕ → Updated
  at p = updated inputs (listed_pair g p)

  updates_by_place : updates ≡ map at (upto (listed_count g))
  unfolding graph_of
  updates_by_place = map-map (updated inputs) (listed_pair g) (upto (listed_count g))

  at_own : (p : ℕ) → at p ≡ own (listed_at g p)
  unfolding update_of
  at_own p = refl

  at_id : (p : ℕ) → (at p).pair.names.id ≡ listed_at g p
  at_id p = ap (λ (n : Names). n.id) (names_kept inputs (listed_pair g p)) ∙ pair_id g p

  looked_up : {A : Type 0} (value : Updated → A) (none : A) (id : ℕ) → value_of value none updates id ≡ cond (stands g id) (value (own id)) none
  unfolding active_of
  looked_up value none id =
      ap (λ (us : List Updated). value_of value none us id) updates_by_place
      ∙ value_found value none at (listed_at g) id (value (own id)) at_id (λ p e. ap value (at_own p ∙ ap own e)) (upto (listed_count g))
      ∙ ap (λ (t : Bool). cond t (value (own id)) none) (same_listed (stands g) (active_of g) (active_stands g) (stands_active g) id)

  bit_means : (id : ℕ) → bit_of id updates ≡ (stands g id && (own id).bit)
  bit_means id = bit_value updates id ∙ looked_up (λ (u : Updated). u.bit) false id ∙ go (stands g id)
    where
      go : (t : Bool) → cond t (own id).bit false ≡ (t && (own id).bit)
      go true = refl
      go false = refl

  pub standing_means : standing_bits 0 (capacity_of g) (map (updated (inputs_of s colliders bodies proposals)) (graph_of g).pairs)
      ≡ standing_ids (λ id. update_of s colliders bodies proposals id g) g
  unfolding standing_ids
  standing_means =
      standing_numbers updates 0 (capacity_of g) ∙ numbers_same (λ id. bit_of id updates) (λ id. stands g id && (own id).bit) 0 (capacity_of g) (λ n l b. bit_means n)

  pub recycled_means : recycled_count (map (updated (inputs_of s colliders bodies proposals)) (graph_of g).pairs)
      ≡ recycled_of (λ id. update_of s colliders bodies proposals id g) (active_of g)
  unfolding active_of
  recycled_means = ap recycled_count updates_by_place ∙ recycled_numbers own at (listed_at g) at_own (upto (listed_count g))

  pub distance_means : (id : ℕ) → max_contact_distance_of (map (updated (inputs_of s colliders bodies proposals)) (graph_of g).pairs) id
      ≡ cond (stands g id) (update_of s colliders bodies proposals id g).max_contact_distance zero_f
  distance_means id = distance_value updates id ∙ looked_up (λ (u : Updated). u.max_contact_distance) zero_f id
