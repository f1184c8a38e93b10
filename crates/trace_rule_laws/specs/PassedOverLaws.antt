-- At a go, the lines of a pair that is not active change nothing: `passed_over`. Assumes nothing.
use Rattle.std.specs.Prelude.{ℕ, zero, suc, ◌+◌, ◌*◌, ◌<◌, ◌≡◌, Bool, cond, ◌&&◌, eqb, length, get_or, drop, None, Some}
use Rattle.std.proofs.Common.{suc-le-suc, zero-lt-suc, subst, ◌∙◌, true≢false}
use Rattle.std.proofs.Math.Path.{refl, sym, ap}
use Rattle.std.proofs.Math.Bool.{true, false}
use mathlib.Core.List.{List, [], ◌∷◌, ◌++◌, append-nil}
use Rattle.rows.specs.Rows.{put}
use Rattle.layout.specs.Body.{body_size, bodies_length}
use Rattle.layout.specs.Collider.{collider_size, colliders_length}
use Rattle.layout.specs.Contact.{contact_collider2}
use Rattle.layout.specs.Proposal.{proposal_size}
use Rattle.layout.specs.Settings.{settings_length}
use Rattle.words.specs.Words.{word_at}
use Rattle.manifold_records.specs.Written.{zeros}
use Rattle.manifold_records.specs.ListLaws.{get_d_map_upto, length_map_upto}
use Rattle.contact_range.specs.Recorded.{capacity_of, contact_at, listed_count, listed_at}
use Rattle.update_pass.specs.Shared.{active_of}
use Rattle.step.specs.Step.{Given, step_refusal, pass_of}
use Rattle.trace_rules.specs.Fields.{Line, settings_letter, collider_letter, body_letter, hook_letter, manifold_letter, point_letter}
use Rattle.trace_rules.specs.Reading.{is}
use Rattle.trace_rules.specs.Records.{fold, settings_after, record_after, Proposal, Proposing, proposed, unproposed, of_pair, with_point, at_most_one, proposing_after, fits_after, StepRecord, step_record}
use Rattle.trace_rules.specs.Printed.{step_text, refused_text}
use Rattle.trace_rules.specs.Play.{proposal_words, proposal_of, with_proposals, proposals_of, shares_of, given_by, blank_rows, go_refusal, Played, play_go}
use Rattle.trace_rule_laws.specs.FoldLaws.{other_letter, fold_append, Idle, idle_more, idle_one, idle_none, fold_without, idle_settings, idle_record, idle_fits, proposing_by, proposing_by_lem}
use Rattle.trace_rule_laws.specs.PassedOver.{Inactive, Points, end, point, points_follow, PassedOver, hook, manifold}

-- ---- a go, from what it is given

abbrev go_by : Given → Bool → List ℕ → Played
go_by given fits g =
    let refusal = cond fits (step_refusal given g (blank_rows (capacity_of g))) 2 in
    cond (eqb refusal 0) (record { text = step_text (pass_of given g).events (pass_of given g).changes; graph = (pass_of given g).graph }) (record { text = refused_text refusal; graph = g })

go_by_lem : (r : StepRecord) (g : List ℕ) → play_go r g ≡ go_by (given_by r g) r.fits g
unfolding go_refusal
go_by_lem r g = refl

same_go : (r s : StepRecord) (g : List ℕ) → given_by r g ≡ given_by s g → r.fits ≡ s.fits → play_go r g ≡ play_go s g
same_go r s g e f = go_by_lem r g ∙ (λ i. go_by (e i) (f i) g) ∙ sym (go_by_lem s g)

-- the proposals' row, from the proposals of the active contacts
same_rows : (p q : ℕ → ℕ → Proposal) (g row ids : List ℕ) → ((k : ℕ) → k < length ids → proposal_of p g (get_or ids k 0) ≡ proposal_of q g (get_or ids k 0))
    → with_proposals p g row ids ≡ with_proposals q g row ids
unfolding with_proposals
same_rows p q g row [] e = refl
same_rows p q g row (id ∷ ids) e =
    same_rows p q g (put row (id * proposal_size) (proposal_words (proposal_of p g id))) ids (λ k h. e (suc k) (suc-le-suc h))
    ∙ ap (λ (r : Proposal). with_proposals q g (put row (id * proposal_size) (proposal_words r)) ids) (e zero (zero-lt-suc (length ids)))

same_proposals : (p q : ℕ → ℕ → Proposal) (g : List ℕ) → ((k : ℕ) → k < listed_count g → proposal_of p g (listed_at g k) ≡ proposal_of q g (listed_at g k)) → proposals_of p g ≡ proposals_of q g
unfolding proposals_of active_of
same_proposals p q g e =
    same_rows p q g (zeros (capacity_of g * proposal_size)) (active_of g)
    (λ k h.
    let l : k < listed_count g = subst (λ (n : ℕ). k < n) (length_map_upto (listed_at g) (listed_count g)) h in
    subst (λ (id : ℕ). proposal_of p g id ≡ proposal_of q g id) (sym (get_d_map_upto (listed_at g) (listed_count g) k 0 l)) (e k l))

-- ---- lines that are passed over, and the three rows and the ranges

points_idle : {S : Type 0} (f : S → Line → S) → ((l : Line) → is point_letter l ≡ true → l.fits ≡ true → (s : S) → f s l ≡ s) → {ls : List Line} → Points ls → Idle f ls
points_idle f e end = idle_none f
points_idle f e (point {l} {ls} p h ps) = idle_more f l ls (e l p h) (points_idle f e ps)

-- what passes over hooks, manifolds and points
passed_idle : {S : Type 0} (f : S → Line → S) → ((l : Line) → is hook_letter l ≡ true → l.fits ≡ true → (s : S) → f s l ≡ s) → ((l : Line) → is manifold_letter l ≡ true → l.fits ≡ true → (s : S) → f s l ≡ s)
    → ((l : Line) → is point_letter l ≡ true → l.fits ≡ true → (s : S) → f s l ≡ s) → {g : List ℕ} {passed after : List Line} → PassedOver g passed after → Idle f passed
passed_idle f h m p (hook {l = l} e r i) = idle_one f l (h l e r)
passed_idle f h m p (manifold {l = l} {points = points} e r i ps o) = idle_more f l points (m l e r) (points_idle f p ps)

passed_settings : {g : List ℕ} {passed after : List Line} → PassedOver g passed after → Idle settings_after passed
passed_settings p =
    passed_idle settings_after (λ l e r. idle_settings l (other_letter hook_letter settings_letter l e refl)) (λ l e r. idle_settings l (other_letter manifold_letter settings_letter l e refl))
    (λ l e r. idle_settings l (other_letter point_letter settings_letter l e refl)) p

passed_record : (letter size : ℕ) → eqb hook_letter letter ≡ false → eqb manifold_letter letter ≡ false → eqb point_letter letter ≡ false
    → {g : List ℕ} {passed after : List Line} → PassedOver g passed after → Idle (record_after letter size) passed
passed_record letter size h m q p =
    passed_idle (record_after letter size) (λ l e r. idle_record letter size l (other_letter hook_letter letter l e h)) (λ l e r. idle_record letter size l (other_letter manifold_letter letter l e m))
    (λ l e r. idle_record letter size l (other_letter point_letter letter l e q)) p

passed_fits : {g : List ℕ} {passed after : List Line} → PassedOver g passed after → Idle fits_after passed
passed_fits p = passed_idle fits_after (λ l e r. idle_fits l r) (λ l e r. idle_fits l r) (λ l e r. idle_fits l r) p

-- ---- the proposal of a pair that the lines do not name

-- the same hook answer and the same manifolds; a point may join the last manifold of one and not that of the other
record Alike (s t : Proposing) : Type 0 where
  hook : s.hook ≡ t.hook
  manifolds : s.closed ++ at_most_one s.last ≡ t.closed ++ at_most_one t.last

same_proposed : {s t : Proposing} → Alike s t → proposed s ≡ proposed t
same_proposed e = λ i. record { hook = e.hook i; manifolds = e.manifolds i }

module _ (a b : ℕ) where
  -- alike before lines whose points belong to their own manifolds: the same proposal after them
  alike_after : (s t : Proposing) (ls : List Line) → points_follow false ls ≡ true → Alike s t → proposed (fold (proposing_after a b) s ls) ≡ proposed (fold (proposing_after a b) t ls)
  unfolding fold points_follow
  alike_after s t [] o e = same_proposed e
  alike_after s t (l ∷ ls) o e =
      ap (λ (u : Proposing). proposed (fold (proposing_after a b) u ls)) (proposing_by_lem a b s l)
      ∙ by (is hook_letter l) (is manifold_letter l) (is point_letter l) (of_pair a b l) (λ h. other_letter hook_letter manifold_letter l h refl) o (λ u v. alike_after u v ls)
      ∙ ap (λ (u : Proposing). proposed (fold (proposing_after a b) u ls)) (sym (proposing_by_lem a b t l))
    where
      answered : (names : Bool) → Alike (proposing_by true false false names l s) (proposing_by true false false names l t)
      answered true = record { hook = refl; manifolds = e.manifolds }
      answered false = e

      by : (h m p names : Bool) → (h ≡ true → m ≡ false) → cond p (false && points_follow true ls) (points_follow m ls) ≡ true
          → ((s t : Proposing) → points_follow false ls ≡ true → Alike s t → proposed (fold (proposing_after a b) s ls) ≡ proposed (fold (proposing_after a b) t ls))
          → proposed (fold (proposing_after a b) (proposing_by h m p names l s) ls) ≡ proposed (fold (proposing_after a b) (proposing_by h m p names l t) ls)
      by h m true names d o rec = absurd (true≢false (sym o))
      by true true false names d o rec = absurd (true≢false (d refl))
      by true false false names d o rec = rec (proposing_by true false false names l s) (proposing_by true false false names l t) o (answered names)
      by false true false names d o rec =
          λ i. proposed (fold (proposing_after a b) (record { hook = e.hook i; closed = e.manifolds i; last = cond names (Some (record { normal = drop 2 l.words; points = [] })) None }) ls)
      by false false false names d o rec = rec s t o e

  -- points where no manifold is open
  unjoined : (s : Proposing) → s.last ≡ None → {ls : List Line} → Points ls → fold (proposing_after a b) s ls ≡ s
  unfolding fold
  unjoined s n end = refl
  unjoined s n (point {l} {ls} p f ps) =
      ap (λ (u : Proposing). fold (proposing_after a b) u ls) (still s n) ∙ unjoined s n ps
    where
      still : (s : Proposing) → s.last ≡ None → proposing_after a b s l ≡ s
      still s n =
          proposing_by_lem a b s l ∙ (λ i. proposing_by (other_letter point_letter hook_letter l p refl i) (other_letter point_letter manifold_letter l p refl i) (p i) (of_pair a b l) l s)
          ∙ (λ i. record { hook = s.hook; closed = s.closed; last = with_point (n i) l }) ∙ (λ i. record { hook = s.hook; closed = s.closed; last = sym n i })

  -- the pair's manifolds so far, none of them open
  abbrev closed_up : Proposing → Proposing
  closed_up s = record { hook = s.hook; closed = s.closed ++ at_most_one s.last; last = None }

  manifold_passed : (s : Proposing) (l : Line) {points : List Line} → is manifold_letter l ≡ true → of_pair a b l ≡ false → Points points → fold (proposing_after a b) s (l ∷ points) ≡ closed_up s
  unfolding fold
  manifold_passed s l {points} e out ps =
      ap (λ (u : Proposing). fold (proposing_after a b) u points)
      (proposing_by_lem a b s l ∙ (λ i. proposing_by (other_letter manifold_letter hook_letter l e refl i) (e i) (is point_letter l) (out i) l s))
      ∙ unjoined (closed_up s) refl ps

  passed_proposal : {g : List ℕ} {passed after : List Line} → PassedOver g passed after → ((l : Line) → Inactive g l → of_pair a b l ≡ false) → (s : Proposing)
      → proposed (fold (proposing_after a b) (fold (proposing_after a b) s passed) after) ≡ proposed (fold (proposing_after a b) s after)
  passed_proposal {after = after} (hook {l = l} e r i) out s =
      ap (λ (u : Proposing). proposed (fold (proposing_after a b) u after))
      (idle_one (proposing_after a b) l (λ u. proposing_by_lem a b u l ∙ (λ j. proposing_by (e j) (is manifold_letter l) (is point_letter l) (out l i j) l u)) s)
  passed_proposal {after = after} (manifold {l = l} e r i ps o) out s =
      ap (λ (u : Proposing). proposed (fold (proposing_after a b) u after)) (manifold_passed s l e (out l i) ps)
      ∙ alike_after (closed_up s) s after o (record { hook = refl; manifolds = append-nil (s.closed ++ at_most_one s.last) })

-- ---- the theorem

-- With the lines since the last go, `before`, `passed` and `after`: a go prints the same, and leaves the same graph, without those passed over.
pub passed_over : (g : List ℕ) (before passed after : List Line) → PassedOver g passed after → play_go (step_record (before ++ passed ++ after)) g ≡ play_go (step_record (before ++ after)) g
unfolding step_record
passed_over g before passed after p =
    let long = before ++ passed ++ after in
    let short = before ++ after in
    same_go (step_record long) (step_record short) g
    (λ i.
    record {
      settings = fold_without settings_after (zeros settings_length) before passed after (passed_settings p) i;
      colliders = fold_without (record_after collider_letter collider_size) (zeros colliders_length) before passed after (passed_record collider_letter collider_size refl refl refl p) i;
      bodies = fold_without (record_after body_letter body_size) (zeros bodies_length) before passed after (passed_record body_letter body_size refl refl refl p) i;
      proposals = same_proposals (step_record long).proposal (step_record short).proposal g active i;
      shares = shares_of g;
    })
    (fold_without fits_after true before passed after (passed_fits p))
  where
    pair : (a b : ℕ) → ((l : Line) → Inactive g l → of_pair a b l ≡ false) → proposed (fold (proposing_after a b) unproposed (before ++ passed ++ after)) ≡ proposed (fold (proposing_after a b) unproposed (before ++ after))
    pair a b out =
        let f = proposing_after a b in
        ap proposed (fold_append f unproposed (before ++ passed) after)
        ∙ ap (λ (u : Proposing). proposed (fold f u after)) (fold_append f unproposed before passed)
        ∙ passed_proposal a b p out (fold f unproposed before) ∙ ap proposed (sym (fold_append f unproposed before after))

    active : (k : ℕ) → k < listed_count g → proposal_of (step_record (before ++ passed ++ after)).proposal g (listed_at g k) ≡ proposal_of (step_record (before ++ after)).proposal g (listed_at g k)
    active k h = pair (word_at g (contact_at g (listed_at g k))) (word_at g (contact_at g (listed_at g k) + contact_collider2)) (λ l i. i k h)
