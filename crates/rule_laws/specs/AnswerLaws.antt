-- The replay claim from the answers alone: a start's number may be read in the graph that its step left, since the pass changes no manifolds
-- and removes no pair that it has started. Assumes nothing.
use Rattle.std.specs.Prelude.{ℕ, zero, suc, ◌≡◌, Bool, cond, eqb, T, length, ℤ, pos, Option, None, Some}
use Rattle.std.proofs.Math.Path.{refl, sym, ap, subst}
use Rattle.std.proofs.Common.{◌∙◌, arith}
use Rattle.std.proofs.Math.Bool.{true, false}
use mathlib.Core.List.{List, [], ◌∷◌, Memᴰ}
use Rattle.rules.specs.Inputs.{Inputs}
use Rattle.rules.specs.Records.{Pair, Names}
use Rattle.rules.specs.Update.{updated}
use Rattle.rules.specs.Graph.{Graph, empty_graph, plain_add, new_id}
use Rattle.rules.specs.Status.{Change, start, stop_if, count_of, plain_step, Verdict, vanishes, starts, stops, generates, recounts, persists, verdict, next, changes_for}
use Rattle.rules.specs.Runs.{Held, holding, manifolds_of, replay_one, replay, Entry, addition, stepping, impulses, Answer, added, stepped, After, unless_refused, plain_call, plain_run, plain_graph, names_both, keeps_generating, ProvisosAt, Provisos}
use Rattle.rule_laws.specs.Replayed.{replay_answer, replay_answers, Room, AnswersReplayHolds}
use Rattle.rule_laws.specs.LookupLaws.{find, mapped, find_id, find_map}
use Rattle.rule_laws.specs.VisitLaws.{visit_changes}
use Rattle.rule_laws.specs.PassingLaws.{naming}
use Rattle.rule_laws.specs.OutcomeLaws.{names_kept}
use Rattle.rule_laws.specs.SettlingLaws.{outcome_of}
use Rattle.rule_laws.specs.ReplayLaws.{after_updates, Sound, Holds, held_in_at, count_at, manifolds_of_find, pass_end, step_graph, step_changes, pass, bits, end_find, end_replayed, step_holds, holds_added, writes_hold, call_sound, empty_sound, empty_holds}

-- ---- which list the numbers are read in

module _ (ps qs : List Pair) (h : Held) (k id c d : ℕ) where
  stop_either : (g : Bool) (a b : Option ℕ) → replay ps (stop_if g (naming id c d a b)) h k ≡ replay qs (stop_if g (naming id c d a b)) h k
  unfolding replay replay_one
  stop_either false a b = refl
  stop_either true None b = refl
  stop_either true (Some x) None = refl
  stop_either true (Some x) (Some y) = refl

  count_either : (e : ℤ) (a b : Option ℕ) → replay ps (count_of (naming id c d a b) e) h k ≡ replay qs (count_of (naming id c d a b) e) h k
  unfolding replay replay_one
  count_either e None b = refl
  count_either e (Some x) None = refl
  count_either e (Some x) (Some y) = refl

  start_either : (g : Bool) → manifolds_of id ps ≡ manifolds_of id qs → replay ps (cond g (start id ∷ []) []) h k ≡ replay qs (cond g (start id ∷ []) []) h k
  unfolding replay replay_one
  start_either true e = ap (λ (m : ℤ). holding h id (Some m) k) e
  start_either false e = refl

-- the pair that is left, if any, has the manifolds that it had
abbrev size_of : Option Pair → Option ℕ
size_of o = mapped (λ (p : Pair). length p.manifolds) o

changes_for_either : (ps qs : List Pair) (h : Held) (k : ℕ) (v : Verdict) (p : Pair) →
    (size_of (next v p) ≡ Some (length p.manifolds) → manifolds_of p.names.id ps ≡ manifolds_of p.names.id qs) → replay ps (changes_for v p) h k ≡ replay qs (changes_for v p) h k
unfolding replay
changes_for_either ps qs h k vanishes p f =
    stop_either ps qs h k p.names.id p.names.collider1 p.names.collider2 p.flags.generate_constraints p.names.body1 p.names.body2
changes_for_either ps qs h k starts p f = start_either ps qs h k p.names.id p.names.collider1 p.names.collider2 p.flags.generate_constraints (f refl)
changes_for_either ps qs h k stops p f =
    stop_either ps qs h k p.names.id p.names.collider1 p.names.collider2 p.flags.generate_constraints p.names.body1 p.names.body2
changes_for_either ps qs h k generates p f = start_either ps qs h k p.names.id p.names.collider1 p.names.collider2 true (f refl)
changes_for_either ps qs h k recounts p f =
    count_either ps qs h k p.names.id p.names.collider1 p.names.collider2 p.count_change p.names.body1 p.names.body2
changes_for_either ps qs h k persists p f = refl

size_count : (o : Option Pair) (n : ℕ) → size_of o ≡ Some n → count_at o ≡ pos n
size_count None n e = absurd (let z : ◌≡◌ {A = ℕ} 0 1 = cc in omega arith)
size_count (Some p) n e = let f : length p.manifolds ≡ n = cc in ap {B = ℤ} pos f

module _ (i : Inputs) (g : Graph) (s : Sound g) (h : Held) where
  -- a pair that is found, by whether its bit stands
  either_some : (p : Pair) → find p.names.id g.pairs ≡ Some p → (t : Bool) →
      find p.names.id (pass_end i g).graph.pairs ≡ outcome_of (updated i p).pair t →
      cond t (replay (after_updates i g) (visit_changes (Some (updated i p).pair)) h p.names.id) (h p.names.id)
      ≡ cond t (replay (pass_end i g).graph.pairs (visit_changes (Some (updated i p).pair)) h p.names.id) (h p.names.id)
  either_some p e false f = refl
  either_some p e true f =
      let q = (updated i p).pair in
      changes_for_either (after_updates i g) (pass_end i g).graph.pairs h p.names.id (verdict q) q
      (λ x. ap (λ (n : Names). manifolds_of n.id (after_updates i g)) (names_kept i p)
      ∙ manifolds_of_find p.names.id (after_updates i g)
      ∙ ap count_at (find_map (λ (p : Pair). (updated i p).pair) (names_kept i) p.names.id g.pairs ∙ ap (mapped (λ (p : Pair). (updated i p).pair)) e)
      ∙ sym (manifolds_of_find p.names.id (pass_end i g).graph.pairs ∙ ap count_at f ∙ size_count (next (verdict q) q) (length q.manifolds) x)
      ∙ ap (λ (n : Names). manifolds_of n.id (pass_end i g).graph.pairs) (sym (names_kept i p)))

  either : (k : ℕ) → replay (after_updates i g) (pass_end i g).changes h k ≡ replay (pass_end i g).graph.pairs (pass_end i g).changes h k
  unfolding replay
  either k = go (find k g.pairs) refl
    where
      go : (o : Option Pair) → find k g.pairs ≡ o → replay (after_updates i g) (pass_end i g).changes h k ≡ replay (pass_end i g).graph.pairs (pass_end i g).changes h k
      go None e = (pass i g s).silent (after_updates i g) h k (bits i g s k None e) ∙ sym ((pass i g s).silent (pass_end i g).graph.pairs h k (bits i g s k None e))
      go (Some p) e =
          let n : p.names.id ≡ k = find_id k g.pairs p e in
          let e' : find p.names.id g.pairs ≡ Some p = ap (λ (k : ℕ). find k g.pairs) n ∙ e in
          let z = bits i g s p.names.id (Some p) e' in
          subst (λ (k : ℕ). replay (after_updates i g) (pass_end i g).changes h k ≡ replay (pass_end i g).graph.pairs (pass_end i g).changes h k) n
          (end_replayed i g s (after_updates i g) h p.names.id p e' (updated i p).bit z
          ∙ either_some p e' (updated i p).bit (end_find i g s p.names.id p e' (updated i p).bit z)
          ∙ sym (end_replayed i g s (pass_end i g).graph.pairs h p.names.id p e' (updated i p).bit z))

  -- the numbers read after the step are those read before the pass
  pub step_either : (k : ℕ) → replay (plain_step i g).graph.pairs (plain_step i g).changes h k ≡ replay (after_updates i g) (plain_step i g).changes h k
  step_either k =
      ap (λ (cs : List Change). replay (plain_step i g).graph.pairs cs h k) (step_changes i g)
      ∙ ap (λ (r : Graph). replay r.pairs (pass_end i g).changes h k) (step_graph i g)
      ∙ sym (either k) ∙ ap (λ (cs : List Change). replay (after_updates i g) cs h k) (sym (step_changes i g))

-- ---- the run

holds_answered : (i : Inputs) (g : Graph) (h : Held) → Sound g → Holds g h → (m : ℕ) →
    (T (eqb m 0) → (p : Pair) → Memᴰ p g.pairs → names_both (updated i p).pair × keeps_generating i p) →
    Holds (unless_refused m g (record { graph = (plain_step i g).graph; answer = stepped (plain_step i g) })).graph
    (replay_answer (unless_refused m g (record { graph = (plain_step i g).graph; answer = stepped (plain_step i g) })).answer h)
unfolding replay_answer
holds_answered i g h s w zero pr k = step_either i g s h k ∙ step_holds i g s (pr tt) h w k
holds_answered i g h s w (suc m) pr k = w k

added_answer : (m : ℕ) (g : Graph) (a : After) (id : ℕ) (h : Held) → a.answer ≡ added id → replay_answer (unless_refused m g a).answer h ≡ h
unfolding replay_answer
added_answer zero g a id h e = ap (λ (b : Answer). replay_answer b h) e
added_answer (suc m) g a id h e = refl

pub call_answers : (e : Entry) (g : Graph) (h : Held) → Sound g → Holds g h → ProvisosAt e g → Holds (plain_call e g).graph (replay_answer (plain_call e g).answer h)
unfolding plain_call replay_answer ProvisosAt
call_answers (addition r a) g h s w p k =
    ap (λ (f : Held). f k) (added_answer (r g) g (record { graph = plain_add a g; answer = added (new_id g) }) (new_id g) h refl) ∙ holds_added a g h (added (new_id g)) w (r g) k
call_answers (stepping r i) g h s w p k = holds_answered i g h s w (r g) p k
call_answers (impulses ws) g h s w p k = writes_hold ws g h w k

pub run_answers : (es : List Entry) (g : Graph) (h : Held) → Sound g → Holds g h → Provisos es g → Room es g → Holds (plain_graph es g) (replay_answers (plain_run es g) h)
unfolding plain_graph plain_run replay_answers Provisos Room
run_answers [] g h s w p q = w
run_answers (e ∷ es) g h s w p q =
    run_answers es (plain_call e g).graph (replay_answer (plain_call e g).answer h) (call_sound e g s q.0) (call_answers e g h s w p.0) p.1 q.1

pub answers_replay_holds : AnswersReplayHolds
answers_replay_holds n es p q id =
    run_answers es (empty_graph n) (λ _. None) (empty_sound n) (empty_holds n) p q id ∙ sym (held_in_at (plain_graph es (empty_graph n)).pairs id)
