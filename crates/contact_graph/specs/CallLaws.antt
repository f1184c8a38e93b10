-- From what the tests of a call show to what the call asks and promises. Assumes nothing.
use Rattle.std.specs.Prelude.{ℕ, ◌+◌, ◌-◌, ◌*◌, ◌≤◌, ◌<◌, ◌≡◌, true, false, List, [], ◌∷◌, length, Err, Ok, Result}
use Rattle.std.proofs.Common.{arith, ◌∙◌, inl, inr}
use Rattle.std.specs.Result.{IsErrAnd}
use Rattle.std.proofs.lemmas.Result.{err_from_is_err_and}
use Rattle.rows.specs.Rows.{put}
use Rattle.contact_types.specs.declared.refusal.Refusal.{Refusal}
use Rattle.contact_types.specs.declared.refusal.Refusal.TheVariants.{WrongLength, OutOfRange, NoContact}
use Rattle.layout.specs.Contact.{contact_pair_index, contact_size}
use Rattle.contact_graph.specs.Calls.{id_refusal, place_of, removed_words}
use Rattle.contact_range.specs.Checked.{Checked}
use Rattle.contact_graph.specs.IdLaws.{given_sum}
use Rattle.contact_graph.specs.Promises.{GraphTested, Removed}
use Rattle.contact_range.specs.Range.{right_length, in_range, stands}
use Rattle.contact_range.specs.RangeLaws.{right_length_lem, in_range_lem, holds, shown, counts, standing_place, standing_below, listed_below}
use Rattle.contact_range.specs.Recorded.{capacity_of, listed_count, free_count, listed_at, contact_at}
use Rattle.contact_range.specs.Conditions.{RightLength, Standing}
use Rattle.contact_graph.specs.Removing.{GapOf}
use Rattle.contact_graph.specs.declared.remove.Gap.{Gap}
use Rattle.layout.specs.Graph.{graph_list}

pub checked : {g : List ℕ} → right_length g ≡ true → in_range g ≡ true → Checked g
checked p q = record { right = right_length_lem p; range = in_range_lem (shown q) }

pub standing_of : {g : List ℕ} → Checked g → Standing g
standing_of {g} c =
    record {
      listed = record { counted = record { right = c.right; counts = counts c.range }; given = holds _ c.range.given };
      back = holds _ c.range.back;
    }

-- ---- the graph's test at the start of a call
-- what a `?` hands on, from what the call promises of the test's two refusals
pub graph_refused : {A : Type 0} (P : Result A Refusal → Type 0) {g : List ℕ} {e : Refusal} (r : Result A Refusal) → IsErrAnd r (λ y. y ≡ e) → GraphTested g (Err e)
    → (right_length g ≡ false → P (Err WrongLength)) → (right_length g ≡ true → in_range g ≡ false → P (Err OutOfRange)) → P r
graph_refused P r handed t short apart =
    let p = err_from_is_err_and r handed in
    elim t.is [
      | inl u ↦ rw (p.1, p.2, u.0) (short u.1)
      | inr u ↦ rw (p.1, p.2, u.0) (apart u.1 u.2)
    ]

pub graph_checked : {g : List ℕ} → GraphTested g (Ok tt) → Checked g
graph_checked t = checked t.is.0 t.is.1

-- ---- the refusals of look up and remove, in their order
module _ (g : List ℕ) (id : ℕ) where
  pub id_length : right_length g ≡ false → id_refusal g id ≡ 1
  unfolding id_refusal
  id_length p = rw p

  pub id_range : right_length g ≡ true → in_range g ≡ false → id_refusal g id ≡ 2
  unfolding id_refusal
  id_range p q = rw (p, q)

  pub id_none : right_length g ≡ true → in_range g ≡ true → stands g id ≡ false → id_refusal g id ≡ 9
  unfolding id_refusal
  id_none p q s = rw (p, q, s)

  pub id_found : right_length g ≡ true → in_range g ≡ true → stands g id ≡ true → id_refusal g id ≡ 0
  unfolding id_refusal
  id_found p q s = rw (p, q, s)

-- ---- removal
-- what a removal stores lies in the graph
pub record Room (g : List ℕ) (id : ℕ) : Type 0 where
  pub known : id < capacity_of g
  pub place : place_of g id < listed_count g
  pub listed : listed_count g ≤ capacity_of g
  pub last : listed_at g (listed_count g - 1) < capacity_of g
  pub spare : free_count g < capacity_of g
  pub index : contact_at g (listed_at g (listed_count g - 1)) + contact_pair_index < length g
  pub long : graph_list + 2 * capacity_of g < length g

pub removal_room : {g : List ℕ} (id : ℕ) → Checked g → stands g id ≡ true → Room g id
removal_room {g} id c s =
    let r = c.range in
    let n = counts r in
    let p = (standing_place r id s).0 in
    let l = listed_below r (listed_count g - 1) (omega arith) in
    record {
      known = standing_below r id s;
      place = p;
      listed = n.listed;
      last = l;
      spare = omega (arith, given_sum r);
      index = inside c.right (listed_at g (listed_count g - 1)) l;
      long = let z = c.right.least in omega (arith, c.right.size);
    }
  where
    inside : RightLength g → (i : ℕ) → i < capacity_of g → contact_at g i + contact_pair_index < length g
    inside r i h = omega (arith, r.size, room i (capacity_of g) h)
      where
        room : (i n : ℕ) → i < n → i * contact_size + contact_size ≤ n * contact_size
        room i n h = omega arith

pub gap_closed : {g a b c : List ℕ} {id : ℕ} {gap : Gap} {n m k : ℕ} → GapOf g id gap → a ≡ put (put g gap.list_at (gap.last.0 ∷ [])) gap.index_at (gap.place ∷ [])
    → k ≡ graph_list + capacity_of g + free_count g → b ≡ put a k (id ∷ []) → n ≡ listed_count g - 1 → m ≡ free_count g + 1 → c ≡ put b 2 (n ∷ m ∷ []) → c ≡ removed_words g id
unfolding removed_words
gap_closed {g} {id = id} f p q s t u w = w ∙ rw (t, u, s, q, p, f.list, f.last, f.index, f.place)

pub remove_refused_length : (g : List ℕ) (id : ℕ) → right_length g ≡ false → Removed g id g (Err WrongLength)
remove_refused_length g id p = let e = id_length g id p in record { answer = rw e; graph = rw e }

pub remove_refused_range : (g : List ℕ) (id : ℕ) → right_length g ≡ true → in_range g ≡ false → Removed g id g (Err OutOfRange)
remove_refused_range g id p q = let e = id_range g id p q in record { answer = rw e; graph = rw e }

pub remove_refused_none : (g : List ℕ) (id : ℕ) → right_length g ≡ true → in_range g ≡ true → stands g id ≡ false → Removed g id g (Err NoContact)
remove_refused_none g id p q s = let e = id_none g id p q s in record { answer = rw e; graph = rw e }

pub remove_kept : (g : List ℕ) (id : ℕ) {h : List ℕ} → right_length g ≡ true → in_range g ≡ true → stands g id ≡ true → h ≡ removed_words g id → Removed g id h (Ok tt)
remove_kept g id p q s f = let e = id_found g id p q s in record { answer = rw e; graph = f ∙ rw e }
