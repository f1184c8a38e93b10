-- The claim about whole lists of additions and steps holds. Assumes nothing.
use Rattle.std.specs.Prelude.{ℕ, zero, suc, ◌≤◌, ◌<◌, ◌≡◌, refl, Bool, true, false, cond, ◌&&◌, List, map, eqb, ltb, leb, length, Result, ⊤, None}
use Rattle.std.proofs.Common.{arith, sym, ap, subst, ◌∙◌, ltb-true, leb-true}
use Rattle.std.proofs.Math.Dec.{eqb-suc-zero}
use Rattle.rules.specs.Graph.{Graph, empty_graph}
use Rattle.rules.specs.Limits.{most_contacts}
use Rattle.rules.specs.Runs.{plain_run, Held}
use Rattle.rule_laws.specs.Replayed.{replay_answers}
use Rattle.contact_graph.specs.Calls.{lay_out_refusal, laid_out}
use Rattle.contact_range.specs.Checked.{Checked}
use Rattle.contact_graph.specs.LaidOutLaws.{laid_right, laid_in_range, laid_empty}
use Rattle.layout.specs.Graph.{graph_length}
use Rattle.contact_graph.specs.Promises as graph
use Rattle.contact_graph.specs.Promises.{LaidOut, done_answer}
use Rattle.contact_range.specs.RangeLaws.{first_of_lem, rest_of, right_length_lem}
use Rattle.contact_range.specs.Recorded.{graph_of}
use Rattle.contact_runs.specs.AlikeRunLaws.{run_alike}
use Rattle.contact_runs.specs.CalledRunLaws.{c_run_of, run_called}
use Rattle.contact_runs.specs.Claim.{plain_of, AsPlain, Demand3}
use Rattle.contact_runs.specs.OnlyLaws.{run_of, run_only}
use Rattle.contact_runs.specs.OrderedRunLaws.{any_in_order, run_ordered, run_promised}
use Rattle.contact_runs.specs.ReplayLaws.{replay_plain, run_replays}
use Rattle.contact_runs.specs.RunLaws.{run_plain}
use Rattle.contact_runs.specs.WriteLaws.{writes_impulses, impulses_writes}
use Rattle.contact_types.specs.declared.refusal.Refusal.{Refusal}

-- ---- a newly laid out graph
-- an answer that it was done
laid_number : (n : ℕ) → cond (eqb n 0) graph.done (graph.refused n) ≡ graph.done → n ≡ 0
laid_number zero e = refl
laid_number (suc n) e =
    let f : graph.refused (suc n) ≡ graph.done = ap (λ (b : Bool). cond b graph.done (graph.refused (suc n))) (sym (eqb-suc-zero n)) ∙ e in
    absurd (let z : ◌≡◌ {A = ℕ} 0 1 = cc in omega arith)

laid_bounds : (before : List ℕ) (capacity : ℕ) → lay_out_refusal before capacity ≡ 0 → (0 < capacity) × (capacity ≤ most_contacts)
unfolding lay_out_refusal
laid_bounds before capacity e =
    let b = leb capacity most_contacts && eqb (length before) (graph_length capacity) in
    let t : (ltb 0 capacity && b) ≡ true = go (ltb 0 capacity && b) e in (
      ltb-true 0 capacity (first_of_lem (ltb 0 capacity) b t),
      leb-true capacity most_contacts (first_of_lem (leb capacity most_contacts) (eqb (length before) (graph_length capacity)) (rest_of (ltb 0 capacity) b t)),
    )
  where
    go : (b : Bool) → ◌≡◌ {A = ℕ} (cond b 0 1) 0 → b ≡ true
    go true e = refl
    go false e = absurd (omega arith)

module _ (before : List ℕ) (capacity : ℕ) (g : List ℕ) (r : Result ⊤ Refusal) (l : LaidOut before capacity g r) (d : done_answer r ≡ graph.done) where
  number : lay_out_refusal before capacity ≡ 0
  number = laid_number (lay_out_refusal before capacity) (sym l.answer ∙ d)

  words : g ≡ laid_out capacity
  words = l.graph ∙ ap (λ (n : ℕ). cond (eqb n 0) (laid_out capacity) before) number

  pub laid_checked : Checked g
  laid_checked =
      let b = laid_bounds before capacity number in
      subst Checked (sym words) (record { right = right_length_lem (laid_right capacity b.0 b.1); range = laid_in_range capacity b.0 b.1 })

  pub laid_plain : graph_of g ≡ empty_graph capacity
  laid_plain = let b = laid_bounds before capacity number in ap graph_of words ∙ laid_empty capacity b.0 b.1

-- ---- the claim
pub demand3 : Demand3
demand3 =
    record {
      runs = run_of;
      only = run_only;
      impulses_alone = λ g c ws. writes_impulses c ws;
      impulses_any = λ g h c w. impulses_writes c w;
      ordered = run_ordered;
      in_any_order = any_in_order;
      unordered = run_promised;
      plain =
          λ before capacity g r es os l d k. subst (λ (p : Graph). AsPlain es os (plain_run (map plain_of es) p)) (laid_plain before capacity g r l d)
          (run_plain g (laid_checked before capacity g r l d) es os (run_promised g es os k));
      bytes = λ g es fs os ps r s a. run_alike g es fs os ps (run_promised g es os r) (run_promised g fs ps s) a;
      replay =
          λ before capacity g r es os l d k p id. ap (λ (h : Held). h id)
          (run_replays g (laid_checked before capacity g r l d) es os (run_promised g es os k) (λ _. None)
          ∙ ap (λ (q : Graph). replay_answers (plain_run (map plain_of es) q) (λ _. None)) (laid_plain before capacity g r l d))
          ∙ replay_plain es capacity p id;
      c_runs = c_run_of;
      called = run_called;
    }
