-- Two lists of calls on the same words, alike in all but allowed shares and what the bit words held, leave the same words after every call, and tell the same. Assumes nothing.
use Rattle.std.specs.Prelude.{ℕ, zero, suc, ◌*◌, ◌≡◌, refl, ◌⊎◌, Bool, not, ◌&&◌, List, length, Result}
use Rattle.std.proofs.Common.{sym, ap, subst, ◌∙◌, inl, inr, eq-eqb}
use Rattle.std.proofs.Math.Bool.{cond}
use Rattle.std.proofs.Math.Dec.{eqb, eqb-suc-zero}
use Rattle.rows.specs.Rows.{put, each}
use Rattle.layout.specs.Body.{bodies_length}
use Rattle.layout.specs.Change.{changes_length}
use Rattle.layout.specs.Collider.{colliders_length}
use Rattle.layout.specs.Event.{events_length}
use Rattle.layout.specs.Proposal.{proposal_size}
use Rattle.layout.specs.Settings.{settings_length}
use Rattle.layout.specs.Shares.{shares_length}
use Rattle.collider.specs.Range.{settings_fit, colliders_fit, bodies_fit}
use Rattle.contact_range.specs.Range.{right_length, in_range}
use Rattle.contact_range.specs.Recorded.{capacity_of}
use Rattle.shares.specs.Shares.{shares_fit}
use Rattle.status_pass.specs.Pass.{Passing}
use Rattle.status_pass.specs.EventsAndChanges.{event_words, change_words}
use Rattle.step.proofs.ShareLaws.{shares_free, distances_free, recycled_free}
use Rattle.step.specs.Step as step
use Rattle.step.specs.Step.{Given, Rows, Stepped, long, given_long, rows_long, lengths_fit, hooks_fit, rows_in_range, proposals_fit, step_refusal, made_of, pass_of, rows_of, answer_of}
use Rattle.update_pass.specs.Shared.{active_of, bits_length, recycled_of, distances_of}
use Rattle.contact_runs.specs.Runs as runs
use Rattle.contact_runs.specs.Claim.{Allowed, AlikeSteps, Alike, alike_same, alike_steps, AllAlike, alike_end, alike_then, SameSteps, SameTold, same_told, same_steps, AllSame, same_end, same_then}
use Rattle.contact_runs.specs.Runs.{Entry, stepping, Told, Outcomes, end, ◌then◌, Promised, Run}
use Rattle.contact_runs.specs.OnlyLaws.{call_only}
use Rattle.step.proofs.ReadLaws.{refused_events, refused_changes, events_read, changes_read}
use Rattle.step.specs.DeterminedLaws.{step_determined}
use Rattle.step.specs.declared.answer.StepReport.{StepReport}
use Rattle.contact_types.specs.declared.refusal.Refusal.{Refusal}

-- ---- two steps
-- shares that are the same or both allowed pass the same tests
module _ (g xs ys : List ℕ) where
  shares_long : (ys ≡ xs) ⊎ (Allowed g xs × Allowed g ys) → long ys (shares_length (capacity_of g)) ≡ long xs (shares_length (capacity_of g))
  shares_long (inl e) = ap (λ (zs : List ℕ). long zs (shares_length (capacity_of g))) e
  shares_long (inr a) =
      eq-eqb (length ys) (shares_length (capacity_of g)) a.1.0 ∙ sym (eq-eqb (length xs) (shares_length (capacity_of g)) a.0.0)

  shares_fit_lem : (ys ≡ xs) ⊎ (Allowed g xs × Allowed g ys) → shares_fit ys g ≡ shares_fit xs g
  shares_fit_lem (inl e) = ap (λ (zs : List ℕ). shares_fit zs g) e
  shares_fit_lem (inr a) = a.1.1 ∙ sym a.0.1

module _ (g : List ℕ) (x : Given) (l : Rows) (y : Given) (m : Rows) (a : AlikeSteps g x l y m) where
  abbrev n : ℕ
  n = capacity_of g

  given_same : given_long y n ≡ given_long x n
  unfolding given_long
  given_same =
      λ i. long (a.settings i) settings_length
      && (long (a.colliders i) colliders_length
      && (long (a.bodies i) bodies_length && (long (a.proposals i) (n * proposal_size) && shares_long g x.shares y.shares a.shares i)))

  rows_same : rows_long m n ≡ rows_long l n
  unfolding rows_long
  rows_same =
      λ i. eqb (a.bits i) (bits_length n) && (eqb (a.events i) (events_length n) && (eqb (a.changes i) (changes_length n) && eqb (a.distances i) n))

  pub refusal_same : step_refusal y g m ≡ step_refusal x g l
  unfolding step_refusal lengths_fit rows_in_range
  refusal_same =
      λ i. cond (not (right_length g && (given_same i && rows_same i))) 1
      (cond (not (settings_fit (a.settings i) && (colliders_fit (a.colliders i) && (bodies_fit (a.bodies i) && (in_range g && hooks_fit (a.proposals i) g))))) 2
      (cond (not (proposals_fit (a.proposals i) g)) 6
      (cond (not (shares_fit_lem g x.shares y.shares a.shares i)) 7 0)))

  -- ---- what the two steps give
  pass_same : pass_of y g ≡ pass_of x g
  pass_same = shares_free x y g a.settings a.colliders a.bodies a.proposals

  recycled_same : recycled_of (made_of y g) (active_of g) ≡ recycled_of (made_of x g) (active_of g)
  recycled_same = recycled_free x y g a.settings a.colliders a.bodies a.proposals

  distances_same : distances_of (made_of y g) g ≡ distances_of (made_of x g) g
  distances_same = distances_free x y g a.settings a.colliders a.bodies a.proposals

  report_same : answer_of y g ≡ answer_of x g
  unfolding answer_of
  report_same = λ i. step.stepped (length (pass_same i).events) (length (pass_same i).changes) (recycled_same i)

  -- rows that were lent the same, the bit words apart
  row_events : m.events ≡ l.events → (rows_of y g m).events ≡ (rows_of x g l).events
  unfolding rows_of
  row_events e = λ i. put (e i) 0 (each event_words (pass_same i).events)

  row_changes : m.changes ≡ l.changes → (rows_of y g m).changes ≡ (rows_of x g l).changes
  unfolding rows_of
  row_changes e = λ i. put (e i) 0 (each change_words (pass_same i).changes)

  row_distances : (rows_of y g m).distances ≡ (rows_of x g l).distances
  unfolding rows_of
  row_distances = distances_same

  module _ {h k : List ℕ} {l' m' : Rows} {r q : Result StepReport Refusal} (s : Stepped x g l h l' r) (t : Stepped y g m k m' q) where
    pub graph_same : k ≡ h
    graph_same = t.graph ∙ (λ i. cond (eqb (refusal_same i) 0) (pass_same i).graph g) ∙ sym s.graph

    answer_same : q ≡ r
    answer_same =
        let u : Stepped x g l (cond (eqb (step_refusal x g l) 0) (pass_of x g).graph g) (cond (eqb (step_refusal x g l) 0) (rows_of x g l) l) q = record {
          answer = t.answer ∙ (λ i. cond (eqb (refusal_same i) 0) (report_same i) (step.refused (refusal_same i)));
          graph = refl;
          rows = refl;
        } in
        (step_determined x g l s u).0

    -- by the number
    steps_by : (n : ℕ) → step_refusal x g l ≡ n → SameSteps l l' m m' r q
    steps_by zero z =
        let z' = refusal_same ∙ z in
        let p = s.answer ∙ ap (λ (n : ℕ). cond (eqb n 0) (answer_of x g) (step.refused n)) z in
        let p' = t.answer ∙ ap (λ (n : ℕ). cond (eqb n 0) (answer_of y g) (step.refused n)) z' in
        let d = s.rows ∙ ap (λ (n : ℕ). cond (eqb n 0) (rows_of x g l) l) z in
        let d' = t.rows ∙ ap (λ (n : ℕ). cond (eqb n 0) (rows_of y g m) m) z' in
        record {
          answer = answer_same;
          events = events_read y g m z' m' q p' d' ∙ ap (λ (u : Passing). u.events) pass_same ∙ sym (events_read x g l z l' r p d);
          changes = changes_read y g m z' m' q p' d' ∙ ap (λ (u : Passing). u.changes) pass_same ∙ sym (changes_read x g l z l' r p d);
          distances = λ _. ap (λ (u : Rows). u.distances) d' ∙ row_distances ∙ sym (ap (λ (u : Rows). u.distances) d);
          event_row = λ e. ap (λ (u : Rows). u.events) d' ∙ row_events e ∙ sym (ap (λ (u : Rows). u.events) d);
          change_row = λ e. ap (λ (u : Rows). u.changes) d' ∙ row_changes e ∙ sym (ap (λ (u : Rows). u.changes) d);
          distance_row = λ e. ap (λ (u : Rows). u.distances) d' ∙ row_distances ∙ sym (ap (λ (u : Rows). u.distances) d);
        }
    steps_by (suc n) z =
        let z' = refusal_same ∙ z in
        let b = eqb-suc-zero n in
        let p = s.answer ∙ (λ i. cond (eqb (z i) 0) (answer_of x g) (step.refused (z i))) ∙ ap (λ (t : Bool). cond t (answer_of x g) (step.refused (suc n))) b in
        let p' = t.answer ∙ (λ i. cond (eqb (z' i) 0) (answer_of y g) (step.refused (z' i))) ∙ ap (λ (t : Bool). cond t (answer_of y g) (step.refused (suc n))) b in
        let d = s.rows ∙ (λ i. cond (eqb (z i) 0) (rows_of x g l) l) ∙ ap (λ (t : Bool). cond t (rows_of x g l) l) b in
        let d' = t.rows ∙ (λ i. cond (eqb (z' i) 0) (rows_of y g m) m) ∙ ap (λ (t : Bool). cond t (rows_of y g m) m) b in
        record {
          answer = answer_same;
          events = refused_events q m'.events (suc n) p' ∙ sym (refused_events r l'.events (suc n) p);
          changes = refused_changes q m'.changes (suc n) p' ∙ sym (refused_changes r l'.changes (suc n) p);
          distances = λ f. absurd (f (suc n) p);
          event_row = λ e. ap (λ (u : Rows). u.events) d' ∙ e ∙ sym (ap (λ (u : Rows). u.events) d);
          change_row = λ e. ap (λ (u : Rows). u.changes) d' ∙ e ∙ sym (ap (λ (u : Rows). u.changes) d);
          distance_row = λ e. ap (λ (u : Rows). u.distances) d' ∙ e ∙ sym (ap (λ (u : Rows). u.distances) d);
        }

    pub steps_same : SameSteps l l' m m' r q
    steps_same = steps_by (step_refusal x g l) refl

-- ---- two calls
alike_call : (g : List ℕ) (x y : Given) (l m : Rows) → AlikeSteps g x l y m → (t : Told (stepping x l)) (s : Told (stepping y m)) (h k : List ℕ)
    → Promised g (stepping x l) t h → Promised g (stepping y m) s k → (k ≡ h) × SameTold (stepping x l) (stepping y m) t s
alike_call g x y l m a t s h k (runs.Promised.steps c) (runs.Promised.steps d) = (graph_same g x l y m a c d, same_steps (steps_same g x l y m a c d))

same_call : (g : List ℕ) {e : Entry} {t s : Told e} {h k : List ℕ} → Promised g e t h → Promised g e s k → (k ≡ h) × SameTold e e t s
same_call g {e} {t} c d = let o = call_only g c d in (o.1, subst (λ (u : Told e). SameTold e e t u) (sym o.0) same_told)

pub call_alike : (g : List ℕ) {e f : Entry} {t : Told e} {s : Told f} {h k : List ℕ} → Alike g e f → Promised g e t h → Promised g f s k → (k ≡ h) × SameTold e f t s
call_alike g alike_same c d = same_call g c d
call_alike g {t = t} {s = s} {h = h} {k = k} (alike_steps {x} {y} {l} {m} a) c d = alike_call g x y l m a t s h k c d

-- ---- two lists of calls
alike_along : (g : List ℕ) {es fs : List Entry} {os : Outcomes es} → AllAlike g es os fs → (ps : Outcomes fs) → Run Promised g es os → Run Promised g fs ps → AllSame es fs os ps
unfolding Run
alike_along g alike_end end r s = same_end
alike_along g (alike_then {fs} {o} a as') (p then ps) r s =
    let c = call_alike g a r.0 s.0 in
    same_then c.0 c.1 (alike_along o.graph as' ps r.1 (subst (λ (h : List ℕ). Run Promised h fs ps) c.0 s.1))

pub run_alike : (g : List ℕ) (es fs : List Entry) (os : Outcomes es) (ps : Outcomes fs) → Run Promised g es os → Run Promised g fs ps → AllAlike g es os fs → AllSame es fs os ps
run_alike g es fs os ps r s a = alike_along g a ps r s
