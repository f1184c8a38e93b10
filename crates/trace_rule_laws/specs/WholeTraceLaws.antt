-- Lines that are passed over or replaced, in a whole trace: `passed_over_trace`, `replaced_trace`. Assumes nothing.
use Prim.Native.Nat.{ℕ}
use Rattle.std.specs.Prelude.{◌≡◌, refl, true, false, cond, eqb}
use Rattle.std.proofs.Common.{sym, subst, ◌∙◌, true≢false}
use Rattle.std.proofs.Math.Path.{ap}
use Rattle.std.proofs.Math.Bool.{Bool}
use mathlib.Core.List.{List, [], ◌∷◌, ◌++◌, append-nil, append_assoc}
use Rattle.trace_rules.specs.Fields.{Line, addition_letter, settings_letter, collider_letter, body_letter, hook_letter, manifold_letter, point_letter, go_letter}
use Rattle.trace_rules.specs.Reading.{is, reading}
use Rattle.trace_rules.specs.Records.{StepRecord, step_record, Entry, addition, stepping, entries_from, entries}
use Rattle.trace_rules.specs.Printed.{refused_text, unreadable}
use Rattle.trace_rules.specs.Play.{play_go, play_entry, play_entries, played}
use Rattle.trace_rule_laws.specs.FoldLaws.{other_letter, entries_by}
use Rattle.trace_rule_laws.specs.PassedOver.{Points, end, point, PassedOver, hook, manifold}
use Rattle.trace_rule_laws.specs.PassedOverLaws.{passed_over}
use Rattle.trace_rule_laws.specs.Replaced.{Replaces}
use Rattle.trace_rule_laws.specs.Replaced as replacing
use Rattle.trace_rule_laws.specs.ReplacedLaws.{replaced}
use Rattle.trace_rule_laws.specs.WholeTrace.{no_go, graph_after}

-- ---- entries

entries_by_lem : (since : List Line) (l : Line) (ls : List Line)
    → entries_from since (l ∷ ls) ≡ entries_by (is go_letter l) (is addition_letter l) (step_record since) l.words (entries_from [] ls) (entries_from (since ++ l ∷ []) ls)
unfolding entries_from
entries_by_lem since l ls = refl

-- lines that are neither a go nor an addition
data Silent : List Line → Type 0 where
  silent_end : Silent []
  silent_more : {l : Line} {ls : List Line} → is go_letter l ≡ false → is addition_letter l ≡ false → Silent ls → Silent (l ∷ ls)

silent_line : (since : List Line) (l : Line) (ls : List Line) → is go_letter l ≡ false → is addition_letter l ≡ false → entries_from since (l ∷ ls) ≡ entries_from (since ++ l ∷ []) ls
silent_line since l ls g a = entries_by_lem since l ls ∙ (λ i. entries_by (g i) (a i) (step_record since) l.words (entries_from [] ls) (entries_from (since ++ l ∷ []) ls))

silent_lines : (since : List Line) {ps : List Line} (rest : List Line) → Silent ps → entries_from since (ps ++ rest) ≡ entries_from (since ++ ps) rest
silent_lines since rest silent_end = ap (λ (ls : List Line). entries_from ls rest) (sym (append-nil since))
silent_lines since rest (silent_more {l} {ls} g a s) =
    silent_line since l (ls ++ rest) g a ∙ silent_lines (since ++ l ∷ []) rest s ∙ ap (λ (ks : List Line). entries_from ks rest) (append_assoc since (l ∷ []) ls)

-- an entry, and the same after it
same_next : (e : Entry) (g : List ℕ) (es fs : List Entry) → play_entries es (play_entry e g).graph ≡ play_entries fs (play_entry e g).graph → play_entries (e ∷ es) g ≡ play_entries (e ∷ fs) g
unfolding play_entries
same_next e g es fs q = λ i. record { text = (play_entry e g).text ++ (q i).text; graph = (q i).graph }

-- ---- lines that play the same wherever they stand, if P holds of the graph after vs
module _ (ts us vs : List Line) (P : List ℕ → Type 0)
    (same : (since : List Line) (g : List ℕ) → P (play_entries (entries_from since vs) g).graph → play_entries (entries_from since ts) g ≡ play_entries (entries_from since us) g) where
  same_behind : (xs since : List Line) (g : List ℕ) → P (play_entries (entries_from since (xs ++ vs)) g).graph → play_entries (entries_from since (xs ++ ts)) g ≡ play_entries (entries_from since (xs ++ us)) g
  unfolding play_entries
  same_behind [] since g p = same since g p
  same_behind (l ∷ xs) since g p =
      ap (λ (es : List Entry). play_entries es g) (entries_by_lem since l (xs ++ ts))
      ∙ by (is go_letter l) (is addition_letter l) (subst (λ (es : List Entry). P (play_entries es g).graph) (entries_by_lem since l (xs ++ vs)) p) (same_behind xs)
      ∙ ap (λ (es : List Entry). play_entries es g) (sym (entries_by_lem since l (xs ++ us)))
    where
      next : Bool → Bool → List Line → List Entry
      next go adds ys = entries_by go adds (step_record since) l.words (entries_from [] (xs ++ ys)) (entries_from (since ++ l ∷ []) (xs ++ ys))

      by : (go adds : Bool) → P (play_entries (next go adds vs) g).graph
          → ((since : List Line) (g : List ℕ) → P (play_entries (entries_from since (xs ++ vs)) g).graph → play_entries (entries_from since (xs ++ ts)) g ≡ play_entries (entries_from since (xs ++ us)) g)
          → play_entries (next go adds ts) g ≡ play_entries (next go adds us) g
      by true adds p rec = same_next (stepping (step_record since)) g (entries_from [] (xs ++ ts)) (entries_from [] (xs ++ us)) (rec [] (play_entry (stepping (step_record since)) g).graph p)
      by false true p rec = same_next (addition l.words) g (entries_from (since ++ l ∷ []) (xs ++ ts)) (entries_from (since ++ l ∷ []) (xs ++ us)) (rec (since ++ l ∷ []) (play_entry (addition l.words) g).graph p)
      by false false p rec = rec (since ++ l ∷ []) g p

-- ---- up to the next go
module _ (go : Line) (is_go : is go_letter go ≡ true) (later : List Line) where
  go_entries : (since : List Line) → entries_from since (go ∷ later) ≡ stepping (step_record since) ∷ entries_from [] later
  go_entries since = entries_by_lem since go later ∙ (λ i. entries_by (is_go i) (is addition_letter go) (step_record since) go.words (entries_from [] later) (entries_from (since ++ go ∷ []) later))

  same_step : (r s : StepRecord) (es : List Entry) (g : List ℕ) → play_go r g ≡ play_go s g → play_entries (stepping r ∷ es) g ≡ play_entries (stepping s ∷ es) g
  unfolding play_entries play_entry
  same_step r s es g q = λ i. record { text = (q i).text ++ (play_entries es (q i).graph).text; graph = (play_entries es (q i).graph).graph }

  -- what stands since the last go, and the lines up to the next
  same_upto : (s t after : List Line) (g : List ℕ) → no_go after ≡ true
      → play_go (step_record (s ++ after)) (play_entries (entries_from t after) g).graph ≡ play_go (step_record (t ++ after)) (play_entries (entries_from t after) g).graph
      → play_entries (entries_from s (after ++ go ∷ later)) g ≡ play_entries (entries_from t (after ++ go ∷ later)) g
  unfolding play_entries no_go entries_from
  same_upto s t [] g n q =
      ap (λ (es : List Entry). play_entries es g) (go_entries s)
      ∙ same_step (step_record s) (step_record t) (entries_from [] later) g (ap (λ (ls : List Line). play_go (step_record ls) g) (sym (append-nil s)) ∙ q ∙ ap (λ (ls : List Line). play_go (step_record ls) g) (append-nil t))
      ∙ ap (λ (es : List Entry). play_entries es g) (sym (go_entries t))
  same_upto s t (l ∷ after) g n q =
      by (is go_letter l) (is addition_letter l) n
      (subst (λ (ls : List Line). play_go (step_record ls) (graph_by (is go_letter l) (is addition_letter l)) ≡ play_go (step_record (t ++ l ∷ after)) (graph_by (is go_letter l) (is addition_letter l))) (sym (append_assoc s (l ∷ []) after)) q)
      (same_upto (s ++ l ∷ []) (t ++ l ∷ []) after)
    where
      graph_by : Bool → Bool → List ℕ
      graph_by go adds = (play_entries (entries_by go adds (step_record t) l.words (entries_from [] after) (entries_from (t ++ l ∷ []) after)) g).graph

      by : (isGo adds : Bool) → cond isGo false (no_go after) ≡ true
          → play_go (step_record (s ++ l ∷ [] ++ after)) (graph_by isGo adds) ≡ play_go (step_record (t ++ l ∷ after)) (graph_by isGo adds)
          → ((g : List ℕ) → no_go after ≡ true
          → play_go (step_record (s ++ l ∷ [] ++ after)) (play_entries (entries_from (t ++ l ∷ []) after) g).graph ≡ play_go (step_record (t ++ l ∷ [] ++ after)) (play_entries (entries_from (t ++ l ∷ []) after) g).graph
          → play_entries (entries_from (s ++ l ∷ []) (after ++ go ∷ later)) g ≡ play_entries (entries_from (t ++ l ∷ []) (after ++ go ∷ later)) g)
          → play_entries (entries_by isGo adds (step_record s) l.words (entries_from [] (after ++ go ∷ later)) (entries_from (s ++ l ∷ []) (after ++ go ∷ later))) g
          ≡ play_entries (entries_by isGo adds (step_record t) l.words (entries_from [] (after ++ go ∷ later)) (entries_from (t ++ l ∷ []) (after ++ go ∷ later))) g
      by true adds n q rec = absurd (true≢false (sym n))
      by false true n q rec =
          let h = (play_entry (addition l.words) g).graph in
          same_next (addition l.words) g (entries_from (s ++ l ∷ []) (after ++ go ∷ later)) (entries_from (t ++ l ∷ []) (after ++ go ∷ later)) (rec h n (q ∙ ap (λ (ls : List Line). play_go (step_record ls) (graph_by false true)) (sym (append_assoc t (l ∷ []) after))))
      by false false n q rec = rec g n (q ∙ ap (λ (ls : List Line). play_go (step_record ls) (graph_by false false)) (sym (append_assoc t (l ∷ []) after)))

-- ---- passed over

points_silent : {ls : List Line} → Points ls → Silent ls
points_silent end = silent_end
points_silent (point {l} e f ps) = silent_more (other_letter point_letter go_letter l e refl) (other_letter point_letter addition_letter l e refl) (points_silent ps)

passed_silent : {g : List ℕ} {passed after : List Line} → PassedOver g passed after → Silent passed
passed_silent (hook {l = l} e f i) = silent_more (other_letter hook_letter go_letter l e refl) (other_letter hook_letter addition_letter l e refl) silent_end
passed_silent (manifold {l = l} e f i ps o) = silent_more (other_letter manifold_letter go_letter l e refl) (other_letter manifold_letter addition_letter l e refl) (points_silent ps)

-- Lines that stand anywhere before a go, `after` between them and the go: where they are passed over at the graph that the go gets,
-- the trace prints the same, and leaves the same graph, without them.
pub passed_over_play : (xs passed after : List Line) (go : Line) (later : List Line) (g : List ℕ) → is go_letter go ≡ true → no_go after ≡ true → PassedOver (graph_after (xs ++ after) g) passed after
    → play_entries (entries (xs ++ passed ++ after ++ go ∷ later)) g ≡ play_entries (entries (xs ++ after ++ go ∷ later)) g
unfolding entries
passed_over_play xs passed after go later g is_go n p =
    ap (λ (ls : List Line). play_entries (entries_from [] ls) g) (append_assoc (xs ++ passed) after (go ∷ later) ∙ append_assoc xs passed (after ++ go ∷ later))
    ∙ same_behind (passed ++ (after ++ go ∷ later)) (after ++ go ∷ later) after (λ h. PassedOver h passed after) here xs [] g p
    ∙ ap (λ (ls : List Line). play_entries (entries_from [] ls) g) (sym (append_assoc xs after (go ∷ later)))
  where
    here : (since : List Line) (g : List ℕ) → PassedOver (play_entries (entries_from since after) g).graph passed after
        → play_entries (entries_from since (passed ++ (after ++ go ∷ later))) g ≡ play_entries (entries_from since (after ++ go ∷ later)) g
    here since g p =
        ap (λ (es : List Entry). play_entries es g) (silent_lines since (after ++ go ∷ later) (passed_silent p))
        ∙ same_upto go is_go later (since ++ passed) since after g n (passed_over (play_entries (entries_from since after) g).graph since passed after p)

-- the texts print the same
same_text : (xs ys : List ℕ) (ls ms : List Line) (g : List ℕ) → (reading xs).lines ≡ ls → (reading ys).lines ≡ ms → (reading xs).unreadable ≡ (reading ys).unreadable → play_entries (entries ls) g ≡ play_entries (entries ms) g
    → played xs g ≡ played ys g
unfolding played
same_text xs ys ls ms g a b u q =
    (λ i. (play_entries (entries (a i)) g).text ++ cond (reading xs).unreadable (refused_text unreadable) []) ∙ (λ i. (q i).text ++ cond (u i) (refused_text unreadable) [])
    ∙ (λ i. (play_entries (entries (sym b i)) g).text ++ cond (reading ys).unreadable (refused_text unreadable) [])

pub passed_over_trace : (trace without : List ℕ) (xs passed after : List Line) (go : Line) (later : List Line) (g : List ℕ)
    → (reading trace).lines ≡ xs ++ passed ++ after ++ go ∷ later → (reading without).lines ≡ xs ++ after ++ go ∷ later → (reading trace).unreadable ≡ (reading without).unreadable
    → is go_letter go ≡ true → no_go after ≡ true → PassedOver (graph_after (xs ++ after) g) passed after → played trace g ≡ played without g
passed_over_trace trace without xs passed after go later g a b u is_go n p =
    same_text trace without (xs ++ passed ++ after ++ go ∷ later) (xs ++ after ++ go ∷ later) g a b u (passed_over_play xs passed after go later g is_go n p)

-- ---- replaced

-- lines that are the same entries wherever they stand
entries_behind : (ts us : List Line) → ((since : List Line) → entries_from since ts ≡ entries_from since us) → (xs since : List Line) → entries_from since (xs ++ ts) ≡ entries_from since (xs ++ us)
unfolding entries_from
entries_behind ts us same [] since = same since
entries_behind ts us same (l ∷ xs) since =
    λ i. entries_by (is go_letter l) (is addition_letter l) (step_record since) l.words (entries_behind ts us same xs [] i) (entries_behind ts us same xs (since ++ l ∷ []) i)

-- what stands since the last go, where it makes no difference to the next step
same_entries : (s t rest : List Line) → ((after : List Line) → step_record (s ++ after) ≡ step_record (t ++ after)) → entries_from s rest ≡ entries_from t rest
unfolding entries_from
same_entries s t [] e = refl
same_entries s t (l ∷ rest) e =
    let r : step_record s ≡ step_record t = ap step_record (sym (append-nil s)) ∙ e [] ∙ ap step_record (append-nil t) in
    let others : entries_from (s ++ l ∷ []) rest ≡ entries_from (t ++ l ∷ []) rest =
    same_entries (s ++ l ∷ []) (t ++ l ∷ []) rest (λ after. ap step_record (append_assoc s (l ∷ []) after) ∙ e (l ∷ after) ∙ ap step_record (sym (append_assoc t (l ∷ []) after))) in
    λ i. entries_by (is go_letter l) (is addition_letter l) (r i) l.words (entries_from [] rest) (others i)

-- a line that is no go
no_go_line : (s t : List Line) (l : Line) (rest : List Line) → is go_letter l ≡ false → entries_from (s ++ l ∷ []) rest ≡ entries_from (t ++ l ∷ []) rest → entries_from s (l ∷ rest) ≡ entries_from t (l ∷ rest)
no_go_line s t l rest n e =
    entries_by_lem s l rest ∙ (λ i. entries_by (n i) (is addition_letter l) (step_record s) l.words (entries_from [] rest) (entries_from (s ++ l ∷ []) rest))
    ∙ (λ i. cond (is addition_letter l) (addition l.words ∷ e i) (e i))
    ∙ (λ i. entries_by (sym n i) (is addition_letter l) (step_record t) l.words (entries_from [] rest) (entries_from (t ++ l ∷ []) rest)) ∙ sym (entries_by_lem t l rest)

entries_until : (s t ms : List Line) (m : Line) (rest : List Line) → no_go ms ≡ true → is go_letter m ≡ false → ((after : List Line) → step_record (s ++ (ms ++ m ∷ after)) ≡ step_record (t ++ (ms ++ m ∷ after)))
    → entries_from s (ms ++ m ∷ rest) ≡ entries_from t (ms ++ m ∷ rest)
unfolding no_go
entries_until s t [] m rest n k e =
    no_go_line s t m rest k
    (same_entries (s ++ m ∷ []) (t ++ m ∷ []) rest (λ after. ap step_record (append_assoc s (m ∷ []) after) ∙ e after ∙ ap step_record (sym (append_assoc t (m ∷ []) after))))
entries_until s t (l ∷ ms) m rest n k e =
    let g = first_no_go (is go_letter l) (no_go ms) n in
    no_go_line s t l (ms ++ m ∷ rest) g.0
    (entries_until (s ++ l ∷ []) (t ++ l ∷ []) ms m rest g.1 k
    (λ after. ap step_record (append_assoc s (l ∷ []) (ms ++ m ∷ after)) ∙ e after ∙ ap step_record (sym (append_assoc t (l ∷ []) (ms ++ m ∷ after)))))
  where
    first_no_go : (a b : Bool) → cond a false b ≡ true → (a ≡ false) × (b ≡ true)
    first_no_go true b e = absurd (true≢false (sym e))
    first_no_go false b e = (refl, e)

-- the lines of a replacement are neither a go nor an addition
record Quiet (l m : Line) : Type 0 where
  go : is go_letter l ≡ false
  adds : is addition_letter l ≡ false
  next : is go_letter m ≡ false

quiet_by : (letter : ℕ) (l m : Line) → eqb letter go_letter ≡ false → eqb letter addition_letter ≡ false → is letter l ≡ true → is letter m ≡ true → Quiet l m
quiet_by letter l m g a p q = record { go = other_letter letter go_letter l p g; adds = other_letter letter addition_letter l p a; next = other_letter letter go_letter m q g }

quiet : (l m : Line) → Replaces l m → Quiet l m
quiet l m (replacing.settings b) = quiet_by settings_letter l m refl refl b.first b.second
quiet l m (replacing.collider b e) = quiet_by collider_letter l m refl refl b.first b.second
quiet l m (replacing.body b e) = quiet_by body_letter l m refl refl b.first b.second
quiet l m (replacing.hook p q e) = quiet_by hook_letter l m refl refl p q

-- A line that a later one replaces before the next go: without it the trace is the same list of additions and step records.
pub replaced_entries : (xs : List Line) (l : Line) (between : List Line) (m : Line) (rest : List Line) → Replaces l m → l.fits ≡ true → no_go between ≡ true
    → entries (xs ++ l ∷ between ++ m ∷ rest) ≡ entries (xs ++ between ++ m ∷ rest)
unfolding entries
replaced_entries xs l between m rest r f n =
    ap (entries_from []) (append_assoc xs (l ∷ between) (m ∷ rest)) ∙ entries_behind (l ∷ between ++ m ∷ rest) (between ++ m ∷ rest) here xs [] ∙ ap (entries_from []) (sym (append_assoc xs between (m ∷ rest)))
  where
    given : (since after : List Line) → step_record (since ++ l ∷ [] ++ (between ++ m ∷ after)) ≡ step_record (since ++ (between ++ m ∷ after))
    given since after =
        ap step_record (append_assoc since (l ∷ []) (between ++ m ∷ after) ∙ sym (append_assoc since (l ∷ between) (m ∷ after))) ∙ replaced since l between m after r f
        ∙ ap step_record (append_assoc since between (m ∷ after))

    here : (since : List Line) → entries_from since (l ∷ between ++ m ∷ rest) ≡ entries_from since (between ++ m ∷ rest)
    here since =
        let q = quiet l m r in
        silent_line since l (between ++ m ∷ rest) q.go q.adds ∙ entries_until (since ++ l ∷ []) since between m rest n q.next (given since)

pub replaced_trace : (trace without : List ℕ) (xs : List Line) (l : Line) (between : List Line) (m : Line) (rest : List Line)
    → (reading trace).lines ≡ xs ++ l ∷ between ++ m ∷ rest → (reading without).lines ≡ xs ++ between ++ m ∷ rest → (reading trace).unreadable ≡ (reading without).unreadable
    → Replaces l m → l.fits ≡ true → no_go between ≡ true → (g : List ℕ) → played trace g ≡ played without g
replaced_trace trace without xs l between m rest a b u r f n g =
    same_text trace without (xs ++ l ∷ between ++ m ∷ rest) (xs ++ between ++ m ∷ rest) g a b u (ap (λ (es : List Entry). play_entries es g) (replaced_entries xs l between m rest r f n))

-- ---- the next go only

-- What stands before a go has no part in the entries after it: those are the entries of the lines below the go.
pub next_go_only : (xs : List Line) (go : Line) (later : List Line) → is go_letter go ≡ true → entries (xs ++ go ∷ later) ≡ entries (xs ++ go ∷ []) ++ entries later
unfolding entries entries_from
next_go_only xs go later is_go = parted xs []
  where
    beside : (isGo adds : Bool) (r : StepRecord) (words : List ℕ) (as' bs cs : List Entry) → entries_by isGo adds r words (as' ++ cs) (bs ++ cs) ≡ entries_by isGo adds r words as' bs ++ cs
    beside true adds r words as' bs cs = refl
    beside false true r words as' bs cs = refl
    beside false false r words as' bs cs = refl

    parted : (xs since : List Line) → entries_from since (xs ++ go ∷ later) ≡ entries_from since (xs ++ go ∷ []) ++ entries_from [] later
    parted [] since = go_entries go is_go later since ∙ (λ i. sym (go_entries go is_go [] since) i ++ entries_from [] later)
    parted (l ∷ xs) since =
        let here : List Entry → List Entry → List Entry = λ as' bs. entries_by (is go_letter l) (is addition_letter l) (step_record since) l.words as' bs in
        entries_by_lem since l (xs ++ go ∷ later) ∙ (λ i. here (parted xs [] i) (parted xs (since ++ l ∷ []) i))
        ∙ beside (is go_letter l) (is addition_letter l) (step_record since) l.words (entries_from [] (xs ++ go ∷ [])) (entries_from (since ++ l ∷ []) (xs ++ go ∷ [])) (entries_from [] later)
        ∙ (λ i. sym (entries_by_lem since l (xs ++ go ∷ [])) i ++ entries_from [] later)
