-- The two provisos apart are those of the claim: together they are `Provisos`, under which the replay holds what the graph holds. Assumes nothing.
use Rattle.std.specs.Prelude.{ℕ, ◌≡◌, refl, ◌⊎◌, T, eqb}
use Rattle.std.proofs.Common.{sym, inl, inr}
use Rattle.std.proofs.Math.Path.{subst}
use mathlib.Core.List.Memᴰ
use mathlib.Core.List.{List, [], ◌∷◌, map, Memᴰ}
use Rattle.rules.specs.Graph.{Graph, empty_graph}
use Rattle.rules.specs.Inputs.{Inputs}
use Rattle.rules.specs.Records.{Pair}
use Rattle.rules.specs.Runs.{Entry, addition, stepping, impulses, plain_call, ProvisosAt, Provisos}
use Rattle.contact_runs.specs.Claim.{plain_of}
use Rattle.contact_runs.specs.DemandLaws.{demand3}
use Rattle.proviso_examples.specs.Alone.{Proviso, Both, AloneAt, Alone, ReplayUnder}

at_provisos : (e : Entry) (g : Graph) → AloneAt Both e g → ProvisosAt e g
unfolding AloneAt ProvisosAt
at_provisos (addition r a) g k = k
at_provisos (stepping r i) g k = k
at_provisos (impulses ws) g k = k

pub both_provisos : (es : List Entry) (g : Graph) → Alone Both es g → Provisos es g
unfolding Alone Provisos
both_provisos [] g k = k
both_provisos (e ∷ es) g k = (at_provisos e g k.0, both_provisos es (plain_call e g).graph k.1)

at_both : (e : Entry) (g : Graph) → ProvisosAt e g → AloneAt Both e g
unfolding AloneAt ProvisosAt
at_both (addition r a) g k = k
at_both (stepping r i) g k = k
at_both (impulses ws) g k = k

pub provisos_both : (es : List Entry) (g : Graph) → Provisos es g → Alone Both es g
unfolding Alone Provisos
provisos_both [] g k = k
provisos_both (e ∷ es) g k = (at_both e g k.0, provisos_both es (plain_call e g).graph k.1)

pub both_suffice : ReplayUnder Both
both_suffice before capacity g r es os l d k p id = demand3.replay before capacity g r es os l d k (both_provisos (map plain_of es) (empty_graph capacity) p) id

-- ---- of each pair in a list
unfoldable pub Each : (Pair → Type 0) → List Pair → Type 0
Each P [] = Unit {0}
Each P (p ∷ ps) = P p × Each P ps

pub each_member : (P : Pair → Type 0) (ps : List Pair) → Each P ps → (p : Pair) → Memᴰ p ps → P p
unfolding Each
each_member P [] k p m = absurd (Memᴰ.not-nil m)
each_member P (q ∷ ps) k p m = go (Memᴰ.cases_cons m) (each_member P ps k.1 p)
  where
    go : (p ≡ q) ⊎ Memᴰ p ps → (Memᴰ p ps → P p) → P p
    go (inl e) below = subst P (sym e) k.0
    go (inr n) below = below n

pub member_each : (P : Pair → Type 0) (ps : List Pair) → ((p : Pair) → Memᴰ p ps → P p) → Each P ps
unfolding Each
member_each P [] k = tt
member_each P (p ∷ ps) k = (k p (Memᴰ.head refl), member_each P ps (λ q m. k q (Memᴰ.tail m)))

-- ---- at a step, by the pairs of the graph
pub step_alone : (P : Proviso) (r : Graph → ℕ) (i : Inputs) (g : Graph) → Each (P i) g.pairs → AloneAt P (stepping r i) g
unfolding AloneAt
step_alone P r i g k = λ t. each_member (P i) g.pairs k

pub alone_step : (P : Proviso) (r : Graph → ℕ) (i : Inputs) (g : Graph) → r g ≡ 0 → AloneAt P (stepping r i) g → Each (P i) g.pairs
unfolding AloneAt
alone_step P r i g e k = member_each (P i) g.pairs (k (subst (λ (n : ℕ). T (eqb n 0)) (sym e) tt))

-- ---- an entry that leads to a graph, and the rest of the list
module _ (P : Proviso) (e : Entry) (es : List Entry) (g h : Graph) (n : (plain_call e g).graph ≡ h) where
  pub alone_then : AloneAt P e g → Alone P es h → Alone P (e ∷ es) g
  unfolding Alone
  alone_then k r = (k, subst (Alone P es) (sym n) r)

  pub alone_rest : Alone P (e ∷ es) g → Alone P es h
  unfolding Alone
  alone_rest k = subst (Alone P es) n k.1

pub alone_first : (P : Proviso) (e : Entry) (es : List Entry) (g : Graph) → Alone P (e ∷ es) g → AloneAt P e g
unfolding Alone
alone_first P e es g k = k.0
