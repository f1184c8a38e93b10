-- The two provisos of the replay hold along every list of calls whose additions name both bodies and whose steps give each collider a body and no sensor. Assumes nothing.
use Rattle.std.specs.Prelude.{ℕ, zero, suc, ◌≡◌, refl, Bool, cond, not, ◌&&◌, T, eqb, Option, None, Some}
use Rattle.std.proofs.Common.{sym, ap, subst, eq-eqb}
use Rattle.std.proofs.Math.Bool.{true, false}
use mathlib.Core.List.{List, [], ◌∷◌, map, Memᴰ}
use Rattle.math.specs.Constants.{zero_f}
use Rattle.rules.specs.Graph.{Graph, empty_graph, new_pair, new_id, plain_add}
use Rattle.rules.specs.Inputs.{Settings, Collider, Body, ProposedManifold, Inputs}
use Rattle.rule_laws.specs.LookupLaws.{find, first, mapped, find_append, find_map}
use Rattle.rule_laws.specs.OutcomeLaws.{names_kept}
use Rattle.rules.specs.Records.{Names, Cache, Pair}
use Rattle.rule_laws.specs.ReplayLaws.{Sound, sound_find, call_sound, empty_sound, pass_end, step_graph, bits, end_find, end_none}
use Rattle.rules.specs.Runs as rules
use Rattle.rules.specs.Runs.{unless_refused, plain_call, named, keeps_generating, ProvisosAt, Provisos}
use Rattle.rule_laws.specs.SettlingLaws.{outcome_of}
use Rattle.rules.specs.Sides.{overlap, interact, Side, side_of}
use Rattle.rules.specs.Recycling.{recycles}
use Rattle.rules.specs.Solver.{Write, pair_written, plain_write, plain_writes}
use Rattle.rule_laws.specs.SolverLaws.{written_kept}
use Rattle.rules.specs.Status.{plain_step, Verdict, vanishes, starts, stops, generates, recounts, persists, verdict, next}
use Rattle.rule_laws.specs.Stripped.{stripped}
use Rattle.rules.specs.Update.{aabbs_disjoint, body_of, disjoint, recycled_pair, enabled, renewed_flags, renewed, overlapping, updated_between, Updated, updated}
use Rattle.contact_graph.specs.Calls.{optional, addition_of}
use Rattle.contact_graph.specs.declared.call.Request.{Request}
use Rattle.step.specs.Step.{inputs}
use Rattle.contact_runs.specs.Claim.{plain_of}
use Rattle.contact_runs.specs.Runs.{Entry, addition, stepping, impulses}
use Rattle.contact_runs.specs.ReplayLaws.{room_at}
use Rattle.contact_runs.specs.Refusals.{plain_add_refusal, plain_step_refusal}
use Rattle.contact_runs.specs.Solver.{plain_of_write}

-- ---- a step that gives each collider a body, and none is a sensor, turns no pair from generating to not
abbrev pub Solid : (ℕ → Option Body) → Option Collider → Type 0
Solid body None = Unit {0}
Solid body (Some c) = ((side_of c (body_of body c.body)).present ≡ true) × (c.sensor ≡ false)

abbrev pub AllSolid : Inputs → Type 0
AllSolid i = (n : ℕ) → Solid i.body (i.collider n)

both_enabled : (c1 c2 : Collider) (a b : Side) → a.present ≡ true → b.present ≡ true → c1.sensor ≡ false → c2.sensor ≡ false → T (enabled c1 c2 a b)
unfolding enabled
both_enabled c1 c2 a b p q r s = subst T (λ i. (sym p i && sym q i) && (not (sym r i) && not (sym s i))) tt

either_generates : (t : Bool) (u v : Updated) → T u.pair.flags.generate_constraints → T v.pair.flags.generate_constraints
    → T (cond t u v).pair.flags.generate_constraints
either_generates true u v e f = e
either_generates false u v e f = f

module _ (s : Settings) (body : ℕ → Option Body) (answer : Bool) (proposal : List ProposedManifold) (p : Pair) (g : T p.flags.generate_constraints) where
  renewed_generates : (c1 c2 : Collider) (a b : Side) → T (enabled c1 c2 a b) → T (renewed s answer proposal c1 c2 a b p).pair.flags.generate_constraints
  unfolding renewed renewed_flags
  renewed_generates c1 c2 a b e = e

  overlapping_generates : (c1 c2 : Collider) (a b : Side) → T (enabled c1 c2 a b) → (t : Bool) (k : Option Cache)
      → T (overlapping s answer proposal c1 c2 a b p t k).pair.flags.generate_constraints
  unfolding overlapping recycled_pair
  overlapping_generates c1 c2 a b e true (Some k) = g
  overlapping_generates c1 c2 a b e true None = renewed_generates c1 c2 a b e
  overlapping_generates c1 c2 a b e false k = renewed_generates c1 c2 a b e

  disjoint_generates : T (disjoint p).flags.generate_constraints
  unfolding disjoint
  disjoint_generates = g

  between_generates : (o1 o2 : Option Collider) → Solid body o1 → Solid body o2 → T (updated_between s body answer proposal p o1 o2).pair.flags.generate_constraints
  unfolding updated_between
  between_generates None o2 h k = g
  between_generates (Some c1) None h k = g
  between_generates (Some c1) (Some c2) h k =
      let a = side_of c1 (body_of body c1.body) in
      let b = side_of c2 (body_of body c2.body) in
      let t = recycles s p.flags.touching a b p.cache in
      either_generates (overlap c1 c2 p.speculative && interact c1 c2) (overlapping s answer proposal c1 c2 a b p t p.cache)
      (record { pair = disjoint p; way = aabbs_disjoint; bit = true; max_contact_distance = zero_f })
      (overlapping_generates c1 c2 a b (both_enabled c1 c2 a b h.0 k.0 h.1 k.1) t p.cache) disjoint_generates

pub keeps_generating_lem : (i : Inputs) → AllSolid i → (p : Pair) → keeps_generating i p
unfolding updated
keeps_generating_lem i h p t g =
    between_generates i.settings i.body (i.hook p.names.id) (i.proposal p.names.id) p g (i.collider p.names.collider1) (i.collider p.names.collider2)
    (h p.names.collider1) (h p.names.collider2)

-- ---- the pairs of a graph name both their bodies
abbrev NamedPair : Option Pair → Type 0
NamedPair None = Unit {0}
NamedPair (Some p) = T (named p.names.body1) × T (named p.names.body2)

abbrev pub AllNamed : Graph → Type 0
AllNamed g = (k : ℕ) → NamedPair (find k g.pairs)

-- a pair with the same names
renamed : (p q : Pair) → q.names ≡ p.names → NamedPair (Some p) → NamedPair (Some q)
renamed p q e n = subst (λ (m : Names). T (named m.body1) × T (named m.body2)) (sym e) n

first_named : (o o' : Option Pair) → NamedPair o → NamedPair o' → NamedPair (first o o')
first_named None o' n m = m
first_named (Some p) o' n m = n

-- what a status case leaves
next_named : (v : Verdict) (q : Pair) → NamedPair (Some q) → NamedPair (next v q)
next_named vanishes q n = tt
next_named starts q n = n
next_named stops q n = n
next_named generates q n = n
next_named recounts q n = n
next_named persists q n = n

left_named : (q : Pair) (t : Bool) → NamedPair (Some q) → NamedPair (outcome_of q t)
left_named q true n = next_named (verdict q) q n
left_named q false n = n

step_named : (i : Inputs) (g : Graph) → Sound g → AllNamed g → AllNamed (plain_step i g).graph
step_named i g s n k = subst (λ (h : Graph). NamedPair (find k h.pairs)) (sym (step_graph i g)) (go (find k g.pairs) refl (n k))
  where
    go : (o : Option Pair) → find k g.pairs ≡ o → NamedPair o → NamedPair (find k (pass_end i g).graph.pairs)
    go None e m = subst NamedPair (sym (end_none i g s k e)) tt
    go (Some p) e m =
        subst NamedPair (sym (end_find i g s k p e (updated i p).bit (bits i g s k (Some p) e)))
        (left_named (updated i p).pair (updated i p).bit (renamed p (updated i p).pair (names_kept i p) m))

mapped_named : (f : Pair → Pair) → ((p : Pair) → (f p).names ≡ p.names) → (o : Option Pair) → NamedPair o → NamedPair (mapped f o)
mapped_named f e None n = tt
mapped_named f e (Some p) n = renamed p (f p) (e p) n

names_written : (w : Write) (p : Pair) → (pair_written w p).names ≡ p.names
unfolding stripped
names_written w p = ap (λ (q : Pair). q.names) (written_kept w p)

write_named : (w : Write) (g : Graph) → AllNamed g → AllNamed (plain_write w g)
write_named w g n k =
    subst NamedPair (sym (find_map (pair_written w) (names_written w) k g.pairs)) (mapped_named (pair_written w) (names_written w) (find k g.pairs) (n k))

writes_named : (ws : List Write) (g : Graph) → AllNamed g → AllNamed (plain_writes ws g)
unfolding plain_writes
writes_named [] g n = n
writes_named (w ∷ ws) g n = writes_named ws (plain_write w g) (write_named w g n)

-- ---- calls that keep to the provisos
abbrev pub Keeping : Entry → Type 0
Keeping (addition a) = (a.has_body1 ≡ 1) × (a.has_body2 ≡ 1)
Keeping (stepping x l) = AllSolid (inputs x)
Keeping (impulses ws) = Unit {0}

unfoldable pub AllKeeping : List Entry → Type 0
AllKeeping [] = Unit {0}
AllKeeping (e ∷ es) = Keeping e × AllKeeping es

new_named : (a : Request) (id k : ℕ) → (a.has_body1 ≡ 1) × (a.has_body2 ≡ 1) → NamedPair (find k (new_pair id (addition_of a) ∷ []))
unfolding find
new_named a id k e = go (eqb id k)
  where
    body : (m n : ℕ) → m ≡ 1 → T (named (optional m n))
    body m n e = subst (λ (t : Bool). T (named (cond t (Some n) None))) (sym (eq-eqb m 1 e)) tt

    go : (t : Bool) → NamedPair (cond t (Some (new_pair id (addition_of a))) None)
    go true = (body a.has_body1 a.body1 e.0, body a.has_body2 a.body2 e.1)
    go false = tt

add_named : (a : Request) (g : Graph) → (a.has_body1 ≡ 1) × (a.has_body2 ≡ 1) → AllNamed g → AllNamed (plain_add (addition_of a) g)
unfolding plain_add
add_named a g e n k =
    let new = new_pair (new_id g) (addition_of a) ∷ [] in
    subst NamedPair (sym (find_append k g.pairs new)) (first_named (find k g.pairs) (find k new) (n k) (new_named a (new_id g) k e))

-- a call that may be refused
either_named : (m : ℕ) (g : Graph) (a : rules.After) → AllNamed g → AllNamed a.graph → AllNamed (unless_refused m g a).graph
either_named zero g a n h = h
either_named (suc m) g a n h = n

call_named : (e : Entry) (g : Graph) → Keeping e → Sound g → AllNamed g → AllNamed (plain_call (plain_of e) g).graph
unfolding plain_call
call_named (addition a) g k s n =
    either_named (plain_add_refusal a g) g (record { graph = plain_add (addition_of a) g; answer = rules.added (new_id g) }) n (add_named a g k n)
call_named (stepping x l) g k s n =
    either_named (plain_step_refusal x l g) g (record { graph = (plain_step (inputs x) g).graph; answer = rules.stepped (plain_step (inputs x) g) }) n (step_named (inputs x) g s n)
call_named (impulses ws) g k s n = writes_named (map plain_of_write ws) g n

provisos_at : (e : Entry) (g : Graph) → Keeping e → Sound g → AllNamed g → ProvisosAt (plain_of e) g
unfolding ProvisosAt
provisos_at (addition a) g k s n = tt
provisos_at (stepping x l) g k s n = λ t p m. (λ q. both_bodies p m, keeps_generating_lem (inputs x) k p)
  where
    both_bodies : (p : Pair) → Memᴰ p g.pairs → NamedPair (Some (updated (inputs x) p).pair)
    both_bodies p m = renamed p (updated (inputs x) p).pair (names_kept (inputs x) p) (subst NamedPair (sound_find g s p m) (n p.names.id))
provisos_at (impulses ws) g k s n = tt

provisos_along : (es : List Entry) (g : Graph) → AllKeeping es → Sound g → AllNamed g → Provisos (map plain_of es) g
unfolding AllKeeping Provisos
provisos_along [] g k s n = tt
provisos_along (e ∷ es) g k s n = (
  provisos_at e g k.0 s n,
  provisos_along es (plain_call (plain_of e) g).graph k.1 (call_sound (plain_of e) g s (room_at e g s)) (call_named e g k.0 s n),
)

pub provisos_hold : (es : List Entry) (capacity : ℕ) → AllKeeping es → Provisos (map plain_of es) (empty_graph capacity)
unfolding find
provisos_hold es capacity k = provisos_along es (empty_graph capacity) k (empty_sound capacity) (λ j. tt)
