-- The active contacts in the list's order: where they stand, and the shares that list them. Assumes nothing.
use Rattle.std.specs.Prelude.{ℕ, ◌+◌, ◌≤◌, ◌<◌, ◌≡◌, List, length, get_or, set, take}
use Rattle.std.proofs.Common.{arith, sym, ap, ◌∙◌}
use Rattle.std.proofs.Math.Seq.{ext_get_or}
use Rattle.rows.specs.Rows.{put, part}
use Rattle.rows.specs.Laws.{length_part, get_d_part, store_step}
use Rattle.rules.specs.Limits.{most_contacts}
use Rattle.layout.specs.Graph.{graph_list}
use Rattle.layout.specs.Shares.{shares_entries, shares_length}
use Rattle.manifold_records.specs.Written.{zeros}
use Rattle.manifold_records.specs.ListLaws.{get_d_map_upto, length_map_upto}
use Rattle.contact_range.specs.Checked.{Checked}
use Rattle.contact_range.specs.RangeLaws.{counts}
use Rattle.contact_range.specs.Recorded.{capacity_of, listed_count, listed_at}
use Rattle.update_pass.specs.Shared.{active_of}
use Rattle.trace_rules.specs.Play.{shares_of}

pub active_length : (g : List ℕ) → length (active_of g) ≡ listed_count g
unfolding active_of
active_length g = length_map_upto (listed_at g) (listed_count g)

pub active_at : (g : List ℕ) (p : ℕ) → p < listed_count g → get_or (active_of g) p 0 ≡ listed_at g p
unfolding active_of
active_at g p h = get_d_map_upto (listed_at g) (listed_count g) p 0 h

-- the list lies in the graph
pub record ListPlaces (g : List ℕ) : Type 0 where
  pub few : listed_count g ≤ capacity_of g
  pub most : capacity_of g ≤ most_contacts
  pub room : graph_list + capacity_of g ≤ length g

pub list_places : {g : List ℕ} → Checked g → ListPlaces g
list_places c = let right = c.right in record { few = (counts c.range).listed; most = right.most; room = omega (arith, right.size) }

-- they are the words of the list
pub active_part : {g : List ℕ} → Checked g → part g graph_list (listed_count g) ≡ active_of g
active_part {g} c =
    let z = list_places c in
    let n = length_part g graph_list (listed_count g) (omega (arith, z.few, z.room)) in
    ext_get_or 0 _ _ (n ∙ sym (active_length g))
    (λ k h. let l : k < listed_count g = omega (arith, n) in get_d_part g graph_list (listed_count g) k 0 l ∙ sym (active_at g k l))

-- one more of them, put behind those before it
pub list_step : (g xs : List ℕ) (p : ℕ) {ys : List ℕ} → ys ≡ put xs shares_entries (take p (active_of g)) → p < listed_count g
    → set ys (shares_entries + p) (listed_at g p) ≡ put xs shares_entries (take (p + 1) (active_of g))
list_step g xs p {ys} e h = ap (set ys (shares_entries + p)) (sym (active_at g p h)) ∙ store_step xs shares_entries (active_of g) p 0 e (omega (arith, active_length g))

-- one worker and its count, then its list
pub shares_filled : (g : List ℕ) {n k : ℕ} {xs ys : List ℕ} → n ≡ shares_length (capacity_of g) → xs ≡ zeros n → k ≡ listed_count g → ys ≡ put (set (set xs 0 1) 1 k) shares_entries (active_of g) → ys ≡ shares_of g
unfolding shares_of put
shares_filled g e x l y = y ∙ (λ i. put (set (set ((x ∙ ap zeros e) i) 0 1) 1 (l i)) shares_entries (active_of g))
