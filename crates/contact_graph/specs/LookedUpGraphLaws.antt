-- A look up answers the edge of the plain graph's contact of that id, and that there is none where the plain graph has none. Assumes nothing.
use Rattle.std.specs.Prelude.{ℕ, zero, suc, ◌+◌, ◌<◌, ◌≡◌, refl, Bool, true, false, cond, List, [], ◌∷◌, map, eqb, length, get_or, Option, None, Some}
use Rattle.std.proofs.Common.{suc-le-suc, zero-lt-suc, not-suc-le-zero, le_of_suc-le-suc, arith, sym, ap, ◌∙◌, true≢false, eq-eqb, ne_eqb}
use Rattle.rows.specs.Slots.{upto}
use Rattle.rules.specs.Graph.{Graph}
use Rattle.rules.specs.Records.{Pair}
use Rattle.manifold_records.specs.ListLaws.{get_d_map_upto, length_map_upto}
use Rattle.layout.specs.Contact.{contact_edge_flags}
use Rattle.contact_records.specs.Recorded.{names_at, edge_at, pair_at}
use Rattle.contact_range.specs.Recorded.{listed_count, listed_at, contact_at, graph_of}
use Rattle.contact_range.specs.Range.{stands}
use Rattle.contact_range.specs.RangeLaws.{listed_once, stands_at}
use Rattle.contact_graph.specs.Calls.{place_of}
use Rattle.contact_range.specs.Checked.{Checked}
use Rattle.contact_graph.specs.LookUp.{Edge, edge_in, edge_of}
use Rattle.contact_graph.specs.AddedGraphLaws.{listed_pair}
use Rattle.contact_graph.specs.RemovedGraphLaws.{pair_id, at_place, here, named}

-- ---- the plain look up
abbrev pub edge_of_pair : Pair → ℕ → Edge
edge_of_pair p place = record { names = p.names; marks = p.edge; index = place }

-- the first pair with that id, the list's first being at a place
unfoldable pub edge_from : ℕ → ℕ → List Pair → Option Edge
edge_from id place [] = None
edge_from id place (p ∷ ps) = cond (eqb p.names.id id) (Some (edge_of_pair p place)) (edge_from id (suc place) ps)

abbrev pub plain_look_up : ℕ → Graph → Option Edge
plain_look_up id g = edge_from id 0 g.pairs

-- ---- laws of lists of pairs
pub edge_at_lem : (id n : ℕ) (ps : List Pair) (k : ℕ) (d : Pair) → k < length ps → (get_or ps k d).names.id ≡ id → ((j : ℕ) → j < k → (get_or ps j d).names.id ≡ id → ⊥)
    → edge_from id n ps ≡ Some (edge_of_pair (get_or ps k d) (n + k))
unfolding edge_from
edge_at_lem id n [] k d h e f = absurd (not-suc-le-zero h)
edge_at_lem id n (p ∷ ps) zero d h e f =
    ap (λ (t : Bool). cond t (Some (edge_of_pair p n)) (edge_from id (suc n) ps)) (eq-eqb p.names.id id e)
    ∙ ap (λ (m : ℕ). Some (edge_of_pair p m)) (let z : n ≡ n + 0 = omega arith in z)
edge_at_lem id n (p ∷ ps) (suc k) d h e f =
    ap (λ (t : Bool). cond t (Some (edge_of_pair p n)) (edge_from id (suc n) ps)) (ne_eqb p.names.id id (f zero (zero-lt-suc k)))
    ∙ edge_at_lem id (suc n) ps k d (le_of_suc-le-suc h) e (λ j l. f (suc j) (suc-le-suc l))
    ∙ ap (λ (m : ℕ). Some (edge_of_pair (get_or ps k d) m)) (let z : suc n + k ≡ n + suc k = omega arith in z)

pub edge_none : (id n : ℕ) (ps : List Pair) (d : Pair) → ((j : ℕ) → j < length ps → (get_or ps j d).names.id ≡ id → ⊥) → edge_from id n ps ≡ None
unfolding edge_from
edge_none id n [] d f = refl
edge_none id n (p ∷ ps) d f =
    ap (λ (t : Bool). cond t (Some (edge_of_pair p n)) (edge_from id (suc n) ps)) (ne_eqb p.names.id id (f zero (zero-lt-suc (length ps))))
    ∙ edge_none id (suc n) ps d (λ j l. f (suc j) (suc-le-suc l))

-- ---- the words
pub listed_edge : (g : List ℕ) (p : ℕ) → edge_of_pair (listed_pair g p) p ≡ record { names = names_at g (contact_at g (listed_at g p)) (listed_at g p); marks = edge_at g (contact_at g (listed_at g p) + contact_edge_flags); index = p }
unfolding pair_at
listed_edge g p = refl

pub looked_up_graph : {g : List ℕ} (id : ℕ) → Checked g → stands g id ≡ true → plain_look_up id (graph_of g) ≡ Some (edge_of g id)
unfolding graph_of edge_in
looked_up_graph {g} id c s =
    let p = place_of g id in
    let ps = map (listed_pair g) (upto (listed_count g)) in
    let d = listed_pair g p in
    let len : length ps ≡ listed_count g = length_map_upto (listed_pair g) (listed_count g) in
    edge_at_lem id 0 ps p d (omega (arith, len, here id c s)) (at_place id c s p (here id c s) ∙ named id c s)
    (λ j l e. let b : j < listed_count g = omega (arith, here id c s) in
    let z = listed_once c.range j p b (here id c s) (sym (at_place id c s j b) ∙ e ∙ sym (named id c s)) in omega arith)
    ∙ ap (λ (m : ℕ). Some (edge_of_pair (get_or ps p d) m)) (let z : 0 + p ≡ p = omega arith in z)
    ∙ ap (λ (q : Pair). Some (edge_of_pair q p)) (get_d_map_upto (listed_pair g) (listed_count g) p d (here id c s))
    ∙ ap Some (listed_edge g p)
    ∙ ap (λ (m : ℕ). Some (record { names = names_at g (contact_at g m) m; marks = edge_at g (contact_at g m + contact_edge_flags); index = p })) (named id c s)

pub looked_up_none : (g : List ℕ) (id : ℕ) → stands g id ≡ false → plain_look_up id (graph_of g) ≡ None
unfolding graph_of
looked_up_none g id s =
    let ps = map (listed_pair g) (upto (listed_count g)) in
    let d = listed_pair g 0 in
    let len : length ps ≡ listed_count g = length_map_upto (listed_pair g) (listed_count g) in
    edge_none id 0 ps d
    (λ j l e. let b : j < listed_count g = omega (arith, len) in
    let n : listed_at g j ≡ id = sym (pair_id g j) ∙ sym (ap (λ (q : Pair). q.names.id) (get_d_map_upto (listed_pair g) (listed_count g) j d b)) ∙ e in
    true≢false (sym (stands_at g j b) ∙ ap (stands g) n ∙ s))
