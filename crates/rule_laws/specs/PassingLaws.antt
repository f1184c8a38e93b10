-- The status pass, id by id: an id that is visited once has what one visit does to it, an id that is not visited nothing. Assumes nothing.
use Rattle.std.specs.Prelude.{ℕ, zero, suc, ◌+◌, ◌≤◌, ◌<◌, ◌≡◌, ◌≢◌, ◌⊎◌, Bool, cond, List, [], ◌∷◌, ◌++◌, eqb, length, ℤ, Option, None, Some}
use Rattle.std.proofs.Math.Path.{refl}
use Rattle.std.proofs.Common.{sym, ap, subst, ◌∙◌, inl, inr, arith}
use Rattle.std.proofs.Math.Bool.{true, false}
use Rattle.rules.specs.Records.{Pair, Names}
use Rattle.rules.specs.Update.{Updated}
use Rattle.rules.specs.Status.{Pass, Change, start, stop, count, stop_if, count_of, visit, visit_all, bit_of, standing_bits, Verdict, vanishes, starts, stops, generates, recounts, persists, changes_for, verdict}
use Rattle.rules.specs.Runs.{Held, holding, raised_by, manifolds_of, replay_one, replay}
use Rattle.rule_laws.specs.LookupLaws.{Test, same, other, test, tally, ids, find, find_id, eqb_same, eqb_other}
use Rattle.rule_laws.specs.VisitLaws.{visit_changes, becoming, Effect, visited}

-- ---- replaying

pub replay_append : (ps : List Pair) (cs ds : List Change) (h : Held) → replay ps (cs ++ ds) h ≡ replay ps ds (replay ps cs h)
unfolding replay
replay_append ps [] ds h = refl
replay_append ps (c ∷ cs) ds h = replay_append ps cs ds (replay_one ps c h)

-- what is held of an id comes from what was held of it
replay_one_local : (ps : List Pair) (c : Change) (g h : Held) (k : ℕ) → g k ≡ h k → replay_one ps c g k ≡ replay_one ps c h k
unfolding replay_one
replay_one_local ps (start id) g h k e = ap (λ (o : Option ℤ). cond (eqb k id) (Some (manifolds_of id ps)) o) e
replay_one_local ps (stop id a b) g h k e = ap (λ (o : Option ℤ). cond (eqb k id) None o) e
replay_one_local ps (count id a b d) g h k e = go (eqb k id) (test k id)
  where
    go : (t : Bool) → Test k id t → cond t (raised_by (g id) d) (g k) ≡ cond t (raised_by (h id) d) (h k)
    go true (same f) = ap (λ (o : Option ℤ). raised_by o d) (ap g (sym f) ∙ e ∙ ap h f)
    go false (other n) = e

pub replay_local : (ps : List Pair) (cs : List Change) (g h : Held) (k : ℕ) → g k ≡ h k → replay ps cs g k ≡ replay ps cs h k
unfolding replay
replay_local ps [] g h k e = e
replay_local ps (c ∷ cs) g h k e = replay_local ps cs (replay_one ps c g) (replay_one ps c h) k (replay_one_local ps c g h k e)

holding_other : (h : Held) (id : ℕ) (v : Option ℤ) (k : ℕ) → k ≢ id → holding h id v k ≡ h k
holding_other h id v k n = ap (λ (t : Bool). cond t v (h k)) (eqb_other k id n)

pub holding_same : (h : Held) (id : ℕ) (v : Option ℤ) → holding h id v id ≡ v
holding_same h id v = ap (λ (t : Bool). cond t v (h id)) (eqb_same id)

-- a stop and a count change, by the bodies named
abbrev pub naming : ℕ → ℕ → ℕ → Option ℕ → Option ℕ → Names
naming id c d a b = record { id = id; collider1 = c; collider2 = d; body1 = a; body2 = b }

module _ (ps : List Pair) (h : Held) (k id c d : ℕ) (n : k ≢ id) where
  stop_other : (g : Bool) (a b : Option ℕ) → replay ps (stop_if g (naming id c d a b)) h k ≡ h k
  unfolding replay replay_one
  stop_other false a b = refl
  stop_other true None b = refl
  stop_other true (Some x) None = refl
  stop_other true (Some x) (Some y) = holding_other h id None k n

  count_other : (e : ℤ) (a b : Option ℕ) → replay ps (count_of (naming id c d a b) e) h k ≡ h k
  unfolding replay replay_one
  count_other e None b = refl
  count_other e (Some x) None = refl
  count_other e (Some x) (Some y) = holding_other h id (raised_by (h id) e) k n

  start_other : (g : Bool) → replay ps (cond g (start id ∷ []) []) h k ≡ h k
  unfolding replay replay_one
  start_other true = holding_other h id (Some (manifolds_of id ps)) k n
  start_other false = refl

-- the changes that a pair's visit lists concern its id alone
changes_for_other : (ps : List Pair) (h : Held) (k : ℕ) (v : Verdict) (p : Pair) → k ≢ p.names.id → replay ps (changes_for v p) h k ≡ h k
unfolding replay
changes_for_other ps h k vanishes p n = stop_other ps h k p.names.id p.names.collider1 p.names.collider2 n p.flags.generate_constraints p.names.body1 p.names.body2
changes_for_other ps h k starts p n = start_other ps h k p.names.id p.names.collider1 p.names.collider2 n p.flags.generate_constraints
changes_for_other ps h k stops p n = stop_other ps h k p.names.id p.names.collider1 p.names.collider2 n p.flags.generate_constraints p.names.body1 p.names.body2
changes_for_other ps h k generates p n = start_other ps h k p.names.id p.names.collider1 p.names.collider2 n true
changes_for_other ps h k recounts p n = count_other ps h k p.names.id p.names.collider1 p.names.collider2 n p.count_change p.names.body1 p.names.body2
changes_for_other ps h k persists p n = refl

visit_changes_other : (ps : List Pair) (h : Held) (k j : ℕ) (qs : List Pair) → k ≢ j → replay ps (visit_changes (find j qs)) h k ≡ h k
unfolding replay
visit_changes_other ps h k j qs n = go (find j qs) (λ p e. find_id j qs p e)
  where
    go : (o : Option Pair) → ((p : Pair) → o ≡ Some p → p.names.id ≡ j) → replay ps (visit_changes o) h k ≡ h k
    go None f = refl
    go (Some p) f = changes_for_other ps h k (verdict p) p (λ e. n (e ∙ f p refl))

-- ---- the pass

pub record Passed (ks : List ℕ) (s s' : Pass) : Type 0 where
  pub capacity : s'.graph.capacity ≡ s.graph.capacity
  pub given : s'.graph.given ≡ s.graph.given
  pub tallied : (x : ℕ) → tally x (ids s'.graph.pairs) + tally x s'.graph.free ≡ tally x (ids s.graph.pairs) + tally x s.graph.free
  pub sized : length s'.graph.pairs + length s'.graph.free ≡ length s.graph.pairs + length s.graph.free
  pub unseen : (k : ℕ) → tally k ks ≡ 0 → find k s'.graph.pairs ≡ find k s.graph.pairs
  pub seen : (k : ℕ) → tally k ks ≡ 1 → find k s'.graph.pairs ≡ becoming (find k s.graph.pairs)
  pub silent : (ps : List Pair) (h : Held) (k : ℕ) → tally k ks ≡ 0 → replay ps s'.changes h k ≡ replay ps s.changes h k
  pub replayed : (ps : List Pair) (h : Held) (k : ℕ) → tally k ks ≡ 1 →
      replay ps s'.changes h k ≡ replay ps (visit_changes (find k s.graph.pairs)) (replay ps s.changes h) k

tally_unseen : (k j : ℕ) (ks : List ℕ) → tally k (j ∷ ks) ≡ 0 → (k ≢ j) × (tally k ks ≡ 0)
unfolding tally
tally_unseen k j ks z = go (eqb j k) (test j k) z
  where
    go : (b : Bool) → Test j k b → cond b 1 0 + tally k ks ≡ 0 → (k ≢ j) × (tally k ks ≡ 0)
    go true (same e) z = absurd (omega arith)
    go false (other n) z = (λ e. n (sym e), omega arith)

tally_seen : (k j : ℕ) (ks : List ℕ) → tally k (j ∷ ks) ≡ 1 → ((j ≡ k) × (tally k ks ≡ 0)) ⊎ ((k ≢ j) × (tally k ks ≡ 1))
unfolding tally
tally_seen k j ks z = go (eqb j k) (test j k) z
  where
    go : (b : Bool) → Test j k b → cond b 1 0 + tally k ks ≡ 1 → ((j ≡ k) × (tally k ks ≡ 0)) ⊎ ((k ≢ j) × (tally k ks ≡ 1))
    go true (same e) z = inl (e, omega arith)
    go false (other n) z = inr (λ e. n (sym e), omega arith)

-- one visit, and then the rest
module _ (j : ℕ) (ks : List ℕ) (s t s' : Pass) (e : Effect j s t) (f : Passed ks t s') where
  moved : (ps : List Pair) (h : Held) (k : ℕ) → replay ps t.changes h k ≡ replay ps (visit_changes (find j s.graph.pairs)) (replay ps s.changes h) k
  moved ps h k = ap (λ (cs : List Change). replay ps cs h k) e.changes ∙ ap (λ (H : Held). H k) (replay_append ps s.changes (visit_changes (find j s.graph.pairs)) h)

  kept : (ps : List Pair) (h : Held) (k : ℕ) → k ≢ j → replay ps t.changes h k ≡ replay ps s.changes h k
  kept ps h k n = moved ps h k ∙ visit_changes_other ps (replay ps s.changes h) k j s.graph.pairs n

  onward_seen : (k : ℕ) → ((j ≡ k) × (tally k ks ≡ 0)) ⊎ ((k ≢ j) × (tally k ks ≡ 1)) → find k s'.graph.pairs ≡ becoming (find k s.graph.pairs)
  onward_seen k (inl i) = f.unseen k i.1 ∙ subst (λ (k : ℕ). find k t.graph.pairs ≡ becoming (find k s.graph.pairs)) i.0 e.here
  onward_seen k (inr i) = f.seen k i.1 ∙ ap becoming (e.others k i.0)

  onward_replayed : (ps : List Pair) (h : Held) (k : ℕ) → ((j ≡ k) × (tally k ks ≡ 0)) ⊎ ((k ≢ j) × (tally k ks ≡ 1)) →
      replay ps s'.changes h k ≡ replay ps (visit_changes (find k s.graph.pairs)) (replay ps s.changes h) k
  onward_replayed ps h k (inl i) =
      f.silent ps h k i.1 ∙ moved ps h k ∙ ap (λ (j : ℕ). replay ps (visit_changes (find j s.graph.pairs)) (replay ps s.changes h) k) i.0
  onward_replayed ps h k (inr i) =
      f.replayed ps h k i.1 ∙ ap (λ (o : Option Pair). replay ps (visit_changes o) (replay ps t.changes h) k) (e.others k i.0)
      ∙ replay_local ps (visit_changes (find k s.graph.pairs)) (replay ps t.changes h) (replay ps s.changes h) k (kept ps h k i.0)

  onward : Passed (j ∷ ks) s s'
  onward = record {
    capacity = f.capacity ∙ e.capacity;
    given = f.given ∙ e.given;
    tallied = λ x. f.tallied x ∙ e.tallied x;
    sized = f.sized ∙ e.sized;
    unseen = λ k z. let w = tally_unseen k j ks z in f.unseen k w.1 ∙ e.others k w.0;
    seen = λ k z. onward_seen k (tally_seen k j ks z);
    silent = λ ps h k z. let w = tally_unseen k j ks z in f.silent ps h k w.1 ∙ kept ps h k w.0;
    replayed = λ ps h k z. onward_replayed ps h k (tally_seen k j ks z);
  }

pub passed : (ks : List ℕ) (s : Pass) → ((x : ℕ) → tally x (ids s.graph.pairs) + tally x s.graph.free ≤ 1) → Passed ks s (visit_all s ks)
unfolding visit_all tally
passed [] s u = record {
  capacity = refl;
  given = refl;
  tallied = λ x. refl;
  sized = refl;
  unseen = λ k z. refl;
  seen = λ k z. absurd (omega arith);
  silent = λ ps h k z. refl;
  replayed = λ ps h k z. absurd (omega arith);
}
passed (j ∷ ks) s u =
    let e = visited j s (λ x. omega (arith, u x)) in
    onward j ks s (visit s j) (visit_all (visit s j) ks) e (passed ks (visit s j) (λ x. omega (arith, u x, e.tallied x)))

-- ---- the standing bits

tally_own : (k : ℕ) (ks : List ℕ) → tally k ks ≡ 0 → (b : Bool) → tally k (cond b (k ∷ ks) ks) ≡ cond b 1 0
unfolding tally
tally_own k ks z true = ap (λ (t : Bool). cond t 1 0 + tally k ks) (eqb_same k) ∙ omega arith
tally_own k ks z false = z

tally_past : (k j : ℕ) (ks : List ℕ) → j ≢ k → (b : Bool) → tally k (cond b (j ∷ ks) ks) ≡ tally k ks
unfolding tally
tally_past k j ks n true = ap (λ (t : Bool). cond t 1 0 + tally k ks) (eqb_other j k n) ∙ omega arith
tally_past k j ks n false = refl

bits_below : (n k from : ℕ) (us : List Updated) → k < from → tally k (standing_bits from n us) ≡ 0
unfolding standing_bits tally
bits_below zero k from us h = refl
bits_below (suc n) k from us h =
    tally_past k from (standing_bits (suc from) n us) (λ e. omega arith) (bit_of from us) ∙ bits_below n k (suc from) us (omega arith)

pub bits_above : (n k from : ℕ) (us : List Updated) → from + n ≤ k → tally k (standing_bits from n us) ≡ 0
unfolding standing_bits tally
bits_above zero k from us h = refl
bits_above (suc n) k from us h =
    tally_past k from (standing_bits (suc from) n us) (λ e. omega arith) (bit_of from us) ∙ bits_above n k (suc from) us (omega arith)

-- an id in reach stands among the bits once if its bit is set, else not at all
pub bits_in : (n k from : ℕ) (us : List Updated) → from ≤ k → k < from + n → tally k (standing_bits from n us) ≡ cond (bit_of k us) 1 0
unfolding standing_bits
bits_in zero k from us h l = absurd (omega arith)
bits_in (suc n) k from us h l = go (eqb from k) (test from k) (λ a b. bits_in n k (suc from) us a b)
  where
    go : (t : Bool) → Test from k t → (suc from ≤ k → k < suc from + n → tally k (standing_bits (suc from) n us) ≡ cond (bit_of k us) 1 0) →
        tally k (cond (bit_of from us) (from ∷ standing_bits (suc from) n us) (standing_bits (suc from) n us)) ≡ cond (bit_of k us) 1 0
    go true (same e) below =
        subst (λ (m : ℕ). tally k (cond (bit_of m us) (m ∷ standing_bits (suc from) n us) (standing_bits (suc from) n us)) ≡ cond (bit_of k us) 1 0) (sym e)
        (tally_own k (standing_bits (suc from) n us) (bits_below n k (suc from) us (omega arith)) (bit_of k us))
    go false (other d) below = tally_past k from (standing_bits (suc from) n us) d (bit_of from us) ∙ below (omega arith) (omega arith)
