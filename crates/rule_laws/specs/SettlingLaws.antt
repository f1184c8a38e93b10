-- One pair through a step: if it was quiet before, then after its update and, where its bit is set, its visit it is quiet again,
-- and what the replay makes of what was held of it is what is to be held of it. Assumes nothing.
use Rattle.std.specs.Prelude.{ℕ, zero, suc, ◌≡◌, Bool, cond, not, ◌&&◌, List, [], ◌∷◌, eqb, T, length, ℤ, negsuc, ◌+ℤ◌, ◌-ℤ◌, Option, None, Some}
use Rattle.std.proofs.Math.Path.{refl, ap}
use Rattle.std.proofs.Common.{sym, subst, subst₂, ◌∙◌, true≢false}
use Rattle.std.proofs.Math.Bool.{true, false}
use Rattle.std.proofs.Math.IntN.{pos, -ℤ-+ℤ_cancel, +ℤ_comm, +ℤ_idl}
use Rattle.rules.specs.Records.{Pair, Names}
use Rattle.rules.specs.Update.{Updated, non_zero}
use Rattle.rules.specs.Status.{Change, start, stop_if, count_of, Verdict, vanishes, starts, stops, generates, recounts, persists, pick, verdict, next, changes_for}
use Rattle.rules.specs.Runs.{Held, raised_by, manifolds_of, replay_one, replay, named}
use Rattle.rule_laws.specs.LookupLaws.{mapped}
use Rattle.rule_laws.specs.VisitLaws.{becoming, visit_changes}
use Rattle.rule_laws.specs.PassingLaws.{naming, holding_same}
use Rattle.rule_laws.specs.OutcomeLaws.{Brief, brief, parted, anew, anew_bit, Outcome, skipped, parts, recycled, renews}

-- ---- the visit, on briefs

abbrev pub verdict_b : Brief → Verdict
verdict_b b = pick b.apart b.started b.stopped (b.touching && b.begun) (b.touching && (b.generating && non_zero b.change))

abbrev marked : Brief → Bool → Bool → Bool → Bool → ℤ → Brief
marked b edge on off begun c = record {
  touching = b.touching;
  edge = edge;
  apart = b.apart;
  started = on;
  stopped = off;
  generating = b.generating;
  begun = begun;
  count = b.count;
  change = c;
}

abbrev pub next_b : Verdict → Brief → Option Brief
next_b vanishes b = None
next_b starts b = Some (marked b true false b.stopped false b.change)
next_b stops b = Some (marked b false b.started false b.begun b.change)
next_b generates b = Some (marked b b.edge b.started b.stopped false b.change)
next_b recounts b = Some (marked b b.edge b.started b.stopped b.begun (pos 0))
next_b persists b = Some b

abbrev pub changes_for_b : Verdict → Brief → Names → List Change
changes_for_b vanishes b n = stop_if b.generating n
changes_for_b starts b n = cond b.generating (start n.id ∷ []) []
changes_for_b stops b n = stop_if b.generating n
changes_for_b generates b n = start n.id ∷ []
changes_for_b recounts b n = count_of n b.change
changes_for_b persists b n = []

next_brief : (v : Verdict) (p : Pair) → mapped brief (next v p) ≡ next_b v (brief p)
next_brief vanishes p = refl
next_brief starts p = refl
next_brief stops p = refl
next_brief generates p = refl
next_brief recounts p = refl
next_brief persists p = refl

changes_for_brief : (v : Verdict) (p : Pair) → changes_for v p ≡ changes_for_b v (brief p) p.names
changes_for_brief vanishes p = refl
changes_for_brief starts p = refl
changes_for_brief stops p = refl
changes_for_brief generates p = refl
changes_for_brief recounts p = refl
changes_for_brief persists p = refl

-- what is to be held of a pair
abbrev pub held_b : Option Brief → Option ℤ
held_b None = None
held_b (Some b) = cond (b.touching && b.generating) (Some (pos b.count)) None

-- a pair between calls
pub record Quiet (b : Brief) : Type 0 where
  pub apart : b.apart ≡ false
  pub started : b.started ≡ false
  pub stopped : b.stopped ≡ false
  pub begun : b.touching && b.begun ≡ false
  pub edge : b.edge ≡ b.touching
  pub filled : b.touching ≡ not (eqb b.count 0)

abbrev pub Quieted : Option Brief → Type 0
Quieted None = Unit {0}
Quieted (Some b) = Quiet b

-- ---- numbers

zero_of : (d : ℤ) → non_zero d ≡ false → d ≡ pos 0
zero_of (pos zero) e = refl
zero_of (pos (suc n)) e = absurd (true≢false e)
zero_of (negsuc n) e = absurd (true≢false e)

unchanged : (old new : ℕ) → non_zero (pos new -ℤ pos old) ≡ false → pos new ≡ pos old
unchanged old new e =
    sym (-ℤ-+ℤ_cancel (pos new) (pos old)) ∙ ap (λ (d : ℤ). d +ℤ pos old) (zero_of (pos new -ℤ pos old) e) ∙ +ℤ_idl (pos old)

raised : (old new : ℕ) → pos old +ℤ (pos new -ℤ pos old) ≡ pos new
raised old new = +ℤ_comm (pos old) (pos new -ℤ pos old) ∙ -ℤ-+ℤ_cancel (pos new) (pos old)

-- ---- what the changes of a visit do to what is held

abbrev Both : Names → Type 0
Both n = T (named n.body1) × T (named n.body2)

stop_replayed : (ps : List Pair) (h : Held) (id c d : ℕ) (a b : Option ℕ) → Both (naming id c d a b) → replay ps (stop_if true (naming id c d a b)) h id ≡ None
unfolding replay replay_one
stop_replayed ps h id c d None b t = absurd t.0
stop_replayed ps h id c d (Some x) None t = absurd t.1
stop_replayed ps h id c d (Some x) (Some y) t = holding_same h id None

count_replayed : (ps : List Pair) (h : Held) (id c d : ℕ) (e : ℤ) (a b : Option ℕ) → Both (naming id c d a b) →
    replay ps (count_of (naming id c d a b) e) h id ≡ raised_by (h id) e
unfolding replay replay_one
count_replayed ps h id c d e None b t = absurd t.0
count_replayed ps h id c d e (Some x) None t = absurd t.1
count_replayed ps h id c d e (Some x) (Some y) t = holding_same h id (raised_by (h id) e)

start_replayed : (ps : List Pair) (h : Held) (id : ℕ) → replay ps (start id ∷ []) h id ≡ Some (manifolds_of id ps)
unfolding replay replay_one
start_replayed ps h id = holding_same h id (Some (manifolds_of id ps))

-- ---- settling

-- the verdict v, the brief after the update, and whether the bit stands
abbrev pub left_by : Verdict → Brief → Bool → Option Brief
left_by v b bit = cond bit (next_b v b) (Some b)

-- what the replay has of the pair's id, once the pass is over
abbrev pub held_after : List Pair → Held → Names → Verdict → Brief → Bool → Option ℤ
held_after ps h n v b bit = cond bit (replay ps (changes_for_b v b n) h n.id) (h n.id)

-- a quiet pair, by its five values
abbrev before : Bool → Bool → Bool → ℕ → ℤ → Brief
before was gen begun old c = record {
  touching = was;
  edge = was;
  apart = false;
  started = false;
  stopped = false;
  generating = gen;
  begun = begun;
  count = old;
  change = c;
}

before_eq : (b : Brief) → Quiet b → before b.touching b.generating b.begun b.count b.change ≡ b
before_eq b q = λ i. record {
  touching = b.touching;
  edge = sym q.edge i;
  apart = sym q.apart i;
  started = sym q.started i;
  stopped = sym q.stopped i;
  generating = b.generating;
  begun = b.begun;
  count = b.count;
  change = b.change;
}

-- a quiet pair that is renewed is quiet again
module _ (old new : ℕ) (c : ℤ) where
  abbrev Calm : Bool → Bool → Bool → Bool → Bool → Type 0
  Calm was now gen begun en =
      let b = anew (before was gen begun old c) en now new in
      Quieted (left_by (verdict_b b) b (anew_bit (before was gen begun old c) en now new))

  calm_apart : (gen begun en bit : Bool) → false ≡ not (eqb new 0) → Quieted (left_by persists (anew (before false gen begun old c) en false new) bit)
  calm_apart gen begun en true t = record { apart = refl; started = refl; stopped = refl; begun = refl; edge = refl; filled = t }
  calm_apart gen begun en false t = record { apart = refl; started = refl; stopped = refl; begun = refl; edge = refl; filled = t }

  calm_starts : (begun gen en : Bool) → true ≡ not (eqb new 0) → Calm false true gen begun en
  calm_starts begun gen false t = record { apart = refl; started = refl; stopped = refl; begun = refl; edge = refl; filled = t }
  calm_starts begun true true t = record { apart = refl; started = refl; stopped = refl; begun = refl; edge = refl; filled = t }
  calm_starts begun false true t = record { apart = refl; started = refl; stopped = refl; begun = refl; edge = refl; filled = t }

  calm_stops : (begun gen en : Bool) → false ≡ not (eqb new 0) → Calm true false gen begun en
  calm_stops begun gen false t = record { apart = refl; started = refl; stopped = refl; begun = refl; edge = refl; filled = t }
  calm_stops begun true true t = record { apart = refl; started = refl; stopped = refl; begun = refl; edge = refl; filled = t }
  calm_stops begun false true t = record { apart = refl; started = refl; stopped = refl; begun = refl; edge = refl; filled = t }

  calm_stays : (gen en : Bool) → true ≡ not (eqb new 0) → Calm true true gen false en
  calm_stays gen false t = go (non_zero (pos new -ℤ pos old))
    where
      go : (z : Bool) → Quieted (left_by persists (anew (before true gen false old c) false true new) z)
      go true = record { apart = refl; started = refl; stopped = refl; begun = refl; edge = refl; filled = t }
      go false = record { apart = refl; started = refl; stopped = refl; begun = refl; edge = refl; filled = t }
  calm_stays true true t = go (non_zero (pos new -ℤ pos old))
    where
      go : (z : Bool) → Quieted (left_by (pick false false false false z) (anew (before true true false old c) true true new) z)
      go true = record { apart = refl; started = refl; stopped = refl; begun = refl; edge = refl; filled = t }
      go false = record { apart = refl; started = refl; stopped = refl; begun = refl; edge = refl; filled = t }
  calm_stays false true t = record { apart = refl; started = refl; stopped = refl; begun = refl; edge = refl; filled = t }

  calm : (was now gen begun en : Bool) → was && begun ≡ false → now ≡ not (eqb new 0) → Calm was now gen begun en
  calm false false gen begun en q t = calm_apart gen begun en (anew_bit (before false gen begun old c) en false new) t
  calm false true gen begun en q t = calm_starts begun gen en t
  calm true false gen begun en q t = calm_stops begun gen en t
  calm true true gen true en q t = absurd (true≢false q)
  calm true true gen false en q t = calm_stays gen en t

-- under the provisos, the replay has of a renewed pair what is to be held of it
module _ (ps : List Pair) (h : Held) (n : Names) (old new : ℕ) (c : ℤ) (m : manifolds_of n.id ps ≡ pos new) where
  abbrev Settles : Bool → Bool → Bool → Bool → Bool → Type 0
  Settles was now gen begun en =
      let b = anew (before was gen begun old c) en now new in
      let bit = anew_bit (before was gen begun old c) en now new in
      held_after ps h n (verdict_b b) b bit ≡ held_b (left_by (verdict_b b) b bit)

  enters : replay ps (start n.id ∷ []) h n.id ≡ Some (pos new)
  enters = start_replayed ps h n.id ∙ ap {B = Option ℤ} Some m

  settle_apart : (gen begun en bit : Bool) → h n.id ≡ None →
      held_after ps h n persists (anew (before false gen begun old c) en false new) bit ≡ held_b (left_by persists (anew (before false gen begun old c) en false new) bit)
  unfolding replay
  settle_apart gen begun en true e = e
  settle_apart gen begun en false e = e

  settle_starts : (begun gen en : Bool) → h n.id ≡ None → Settles false true gen begun en
  unfolding replay
  settle_starts begun gen false e = e
  settle_starts begun true true e = enters
  settle_starts begun false true e = enters

  settle_stops : (begun gen en : Bool) → (T gen → T en) → (T en → Both n) → h n.id ≡ held_b (Some (before true gen begun old c)) → Settles true false gen begun en
  unfolding replay
  settle_stops begun true false k b e = absurd (k tt)
  settle_stops begun false false k b e = e
  settle_stops begun true true k b e = stop_replayed ps h n.id n.collider1 n.collider2 n.body1 n.body2 (b tt)
  settle_stops begun false true k b e = stop_replayed ps h n.id n.collider1 n.collider2 n.body1 n.body2 (b tt)

  settle_stays : (gen en : Bool) → (T gen → T en) → (T en → Both n) → h n.id ≡ held_b (Some (before true gen false old c)) → Settles true true gen false en
  unfolding replay
  settle_stays true false k b e = absurd (k tt)
  settle_stays false false k b e = go (non_zero (pos new -ℤ pos old))
    where
      go : (z : Bool) →
          held_after ps h n persists (anew (before true false false old c) false true new) z ≡ held_b (left_by persists (anew (before true false false old c) false true new) z)
      go true = e
      go false = e
  settle_stays true true k b e = go (non_zero (pos new -ℤ pos old)) refl
    where
      go : (z : Bool) → non_zero (pos new -ℤ pos old) ≡ z →
          held_after ps h n (pick false false false false z) (anew (before true true false old c) true true new) z
          ≡ held_b (left_by (pick false false false false z) (anew (before true true false old c) true true new) z)
      go true d =
          count_replayed ps h n.id n.collider1 n.collider2 (pos new -ℤ pos old) n.body1 n.body2 (b tt)
          ∙ ap (λ (o : Option ℤ). raised_by o (pos new -ℤ pos old)) e ∙ ap {B = Option ℤ} Some (raised old new)
      go false d = e ∙ ap {B = Option ℤ} Some (sym (unchanged old new d))
  settle_stays false true k b e = enters

  settle : (was now gen begun en : Bool) → was && begun ≡ false → (T was → T gen → T en) → (T en → Both n) →
      h n.id ≡ held_b (Some (before was gen begun old c)) → Settles was now gen begun en
  settle false false gen begun en q k b e = settle_apart gen begun en (anew_bit (before false gen begun old c) en false new) e
  settle false true gen begun en q k b e = settle_starts begun gen en e
  settle true false gen begun en q k b e = settle_stops begun gen en (k tt) b e
  settle true true gen true en q k b e = absurd (true≢false q)
  settle true true gen false en q k b e = settle_stays gen en (k tt) b e

-- a pair found disjoint
settle_parted : (ps : List Pair) (h : Held) (n : Names) (b : Brief) → (T b.generating → Both n) → h n.id ≡ held_b (Some b) → held_after ps h n vanishes (parted b) true ≡ None
unfolding replay
settle_parted ps h n b w e = go b.touching b.generating w e
  where
    go : (was gen : Bool) → (T gen → Both n) → h n.id ≡ cond (was && gen) (Some (pos b.count)) None → replay ps (stop_if gen n) h n.id ≡ None
    go was true w e = stop_replayed ps h n.id n.collider1 n.collider2 n.body1 n.body2 (w tt)
    go true false w e = e
    go false false w e = e

-- ---- a pair and its update

-- a quiet pair is quiet after the step
pub quieted : (p : Pair) (u : Updated) → Outcome p u → Quiet (brief p) → Quieted (left_by (verdict_b (brief u.pair)) (brief u.pair) u.bit)
quieted p u (skipped f b) q = subst₂ (λ (c : Brief) (t : Bool). Quieted (left_by (verdict_b c) c t)) (sym (ap brief f)) (sym b) q
quieted p u (recycled n d f b) q = subst₂ (λ (c : Brief) (t : Bool). Quieted (left_by (verdict_b c) c t)) (sym f) (sym b) q
quieted p u (parts n d f b) q = subst₂ (λ (c : Brief) (t : Bool). Quieted (left_by (verdict_b c) c t)) (sym f) (sym b) tt
quieted p u (renews en now new t n d f b) q =
    subst₂ (λ (c : Brief) (t : Bool). Quieted (left_by (verdict_b c) c t)) (sym f) (sym b)
    (subst (λ (c : Brief). Quieted (left_by (verdict_b (anew c en now new)) (anew c en now new) (anew_bit c en now new))) (before_eq (brief p) q)
    (calm (length p.manifolds) new p.count_change p.flags.touching now p.flags.generate_constraints p.flags.started_generating en q.begun t))

-- and, under the provisos, the replay has of it what is to be held of it
pub settled : (ps : List Pair) (h : Held) (p : Pair) (u : Updated) → Outcome p u → Quiet (brief p) →
    (T u.pair.flags.generate_constraints → T (named u.pair.names.body1) × T (named u.pair.names.body2)) →
    (T p.flags.touching → T p.flags.generate_constraints → T u.pair.flags.generate_constraints) →
    manifolds_of p.names.id ps ≡ pos (length u.pair.manifolds) → h p.names.id ≡ held_b (Some (brief p)) →
    held_after ps h p.names (verdict_b (brief u.pair)) (brief u.pair) u.bit ≡ held_b (left_by (verdict_b (brief u.pair)) (brief u.pair) u.bit)
settled ps h p u o q w k m e = go o
  where
    Goal : Brief → Bool → Type 0
    Goal c t = held_after ps h p.names (verdict_b c) c t ≡ held_b (left_by (verdict_b c) c t)

    both : {c : Brief} → brief u.pair ≡ c → u.pair.names ≡ p.names → T c.generating → Both p.names
    both f n g = subst Both n (w (subst T (sym (ap (λ (c : Brief). c.generating) f)) g))

    go : Outcome p u → Goal (brief u.pair) u.bit
    go (skipped f b) = subst₂ Goal (sym (ap brief f)) (sym b) e
    go (recycled n d f b) = subst₂ Goal (sym f) (sym b) e
    go (parts n d f b) = subst₂ Goal (sym f) (sym b) (settle_parted ps h p.names (brief p) (both f n) e)
    go (renews en now new t n d f b) =
        subst₂ Goal (sym f) (sym b)
        (subst (λ (c : Brief). held_after ps h p.names (verdict_b (anew c en now new)) (anew c en now new) (anew_bit c en now new)
        ≡ held_b (left_by (verdict_b (anew c en now new)) (anew c en now new) (anew_bit c en now new)))
        (before_eq (brief p) q)
        (settle ps h p.names (length p.manifolds) new p.count_change (m ∙ ap (λ (c : Brief). pos c.count) f) p.flags.touching now
        p.flags.generate_constraints p.flags.started_generating en q.begun (λ x y. subst T (ap (λ (c : Brief). c.generating) f) (k x y)) (both f n) e))

-- on pairs
abbrev pub outcome_of : Pair → Bool → Option Pair
outcome_of q bit = cond bit (becoming (Some q)) (Some q)

pub outcome_of_brief : (q : Pair) (bit : Bool) → mapped brief (outcome_of q bit) ≡ left_by (verdict_b (brief q)) (brief q) bit
outcome_of_brief q true = next_brief (verdict q) q
outcome_of_brief q false = refl

pub visit_changes_brief : (q : Pair) → visit_changes (Some q) ≡ changes_for_b (verdict_b (brief q)) (brief q) q.names
visit_changes_brief q = changes_for_brief (verdict q) q
