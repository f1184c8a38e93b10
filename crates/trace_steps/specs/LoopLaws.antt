-- The loops over the lines of a stretch of text: what the lines that are left make is the whole. Assumes nothing.
use Rattle.std.specs.Prelude.{ℕ, ◌*◌, ◌≤◌, ◌<◌, ◌≡◌, Bool, true, false, None, cond, eqb, drop, set}
use Rattle.std.proofs.Common.{arith, subst, ◌∙◌}
use Rattle.std.proofs.Math.Path.{refl, sym, ap}
use mathlib.Core.List.{List, [], ◌∷◌}
use Rattle.std.proofs.Math.ListN.{length}
use Rattle.rows.specs.Rows.{part, put}
use Rattle.rows.specs.Laws.{part_put, length_put}
use Rattle.rules.specs.Limits as limits
use Rattle.layout.specs.Body.{body_size, bodies_length}
use Rattle.layout.specs.Collider.{collider_size, colliders_length}
use Rattle.layout.specs.Proposal.{proposal_hook, proposal_size, proposed_point_size}
use Rattle.layout.specs.Request.{request_length}
use Rattle.layout.specs.Settings.{settings_length}
use Rattle.manifold_records.specs.Written.{zeros}
use Rattle.manifold_records.specs.ListLaws.{length_zeros}
use Rattle.trace_rules.specs.Fields.{Line, addition_letter, settings_letter, collider_letter, body_letter, hook_letter, manifold_letter, point_letter}
use Rattle.trace_rules.specs.Play.{proposal_words, with_manifolds}
use Rattle.trace_rules.specs.Records.{word_of, fold, settings_after, record_after, Proposing, proposed, unproposed, proposing_after, step_record}
use Rattle.trace_lines.specs.Items.{letter_of}
use Rattle.trace_lines.specs.Promises.{LineIs}
use Rattle.trace_lines.specs.Widths.{width_of}
use Rattle.trace_lines.specs.WidthLaws.{line_width}
use Rattle.trace_lines.specs.declared.line.ReadLine.{ReadLine}
use Rattle.trace_steps.specs.declared.proposal.Counts.{Counts}
use Rattle.trace_steps.specs.declared.stretch.Lines.{Lines}
use Rattle.trace_steps.specs.declared.stretch.Stretch.{Stretch}
use Rattle.trace_steps.specs.Lines.{Held, RowsTaken, progress, line_taken}
use Rattle.trace_steps.specs.FollowLaws.{Follows, line_follows}
use Rattle.trace_steps.specs.PlaceLaws.{lines_next}
use Rattle.trace_steps.specs.Promises.{RowsFilled}
use Rattle.trace_steps.specs.RowLaws.{settings_after_lem, record_after_lem}
use Rattle.trace_steps.specs.Stretch.{lines_of, LineTaken}

-- ---- a line that was read
either_most : (b : Bool) (n m : ℕ) → n ≤ body_size → m ≤ body_size → cond b n m ≤ body_size
either_most true n m h l = h
either_most false n m h l = l

width_most : (letter : ℕ) → width_of letter ≤ body_size
unfolding width_of
width_most letter =
    either_most (eqb letter addition_letter) request_length _ (omega arith)
    (either_most (eqb letter settings_letter) settings_length _ (omega arith)
    (either_most (eqb letter collider_letter) collider_size _ (omega arith)
    (either_most (eqb letter body_letter) body_size _ (omega arith)
    (either_most (eqb letter hook_letter) 3 _ (omega arith)
    (either_most (eqb letter manifold_letter) 5 _ (omega arith) (either_most (eqb letter point_letter) proposed_point_size 0 (omega arith) (omega arith)))))))

-- it is the first of the lines that are left, and its words stand at the front of the row
pub line_taken_lem : (l l' : Lines) {r : ReadLine} → l.left.start < l.left.stop → length l'.words ≡ body_size → LineIs l.left.text.now l.left.start l.words l'.words r
    → l'.left ≡ record { text = l.left.text; start = r.next; stop = l.left.stop } → LineTaken l l' r.kind
line_taken_lem l l' {r} h n i e =
    let line : Line = record { letter = letter_of r.kind; words = i.fields; fits = r.fits } in
    let w : length i.fields ≡ width_of (letter_of r.kind) = line_width (drop l.left.start l.left.text.now) (record { value = line; rest = drop r.next l.left.text.now }) i.read in
    let m = width_most (letter_of r.kind) in
    let k : length l.words ≡ body_size = sym (ap length i.stored ∙ length_put l.words 0 i.fields) ∙ n in
    record {
      line = line;
      letter = refl;
      held = record { front = ap (λ (vs : List ℕ). part vs 0 (length i.fields)) i.stored ∙ part_put l.words 0 i.fields (length i.fields) refl (omega arith); width = w };
      left = lines_next l.left.text.now l.left.start l.left.stop r.next line h i.read i.inside ∙ ap (λ (s : Stretch). line ∷ lines_of s) (sym e);
    }

fold_next : {S : Type 0} (f : S → Line → S) (s : S) {ls ls' : List Line} {l : Line} → ls ≡ l ∷ ls' → fold f s ls ≡ fold f (f s l) ls'
unfolding fold
fold_next f s e = ap (fold f s) e

fold_end : {S : Type 0} (f : S → Line → S) (s : S) {ls : List Line} → ls ≡ [] → fold f s ls ≡ s
unfolding fold
fold_end f s e = ap (fold f s) e

-- ---- settings, colliders and bodies
length_settings : (row : List ℕ) (l : Line) → length (settings_after row l) ≡ length row
unfolding settings_after
length_settings row l = go (eqb l.letter settings_letter)
  where
    go : (b : Bool) → length (cond b (put row 0 l.words) row) ≡ length row
    go true = length_put row 0 l.words
    go false = refl

length_record : (letter size : ℕ) (row : List ℕ) (l : Line) → length (record_after letter size row l) ≡ length row
unfolding record_after
length_record letter size row l = go (eqb l.letter letter)
  where
    go : (b : Bool) → length (cond b (put row (word_of l 0 * size) (1 ∷ drop 1 l.words)) row) ≡ length row
    go true = length_put row (word_of l 0 * size) (1 ∷ drop 1 l.words)
    go false = refl

-- what the lines that are left make of the rows is what all make
pub record RowsRead (all left : List Line) (settings colliders bodies : List ℕ) : Type 0 where
  pub settings_size : length settings ≡ settings_length
  pub colliders_size : length colliders ≡ colliders_length
  pub bodies_size : length bodies ≡ bodies_length
  pub settings_are : fold settings_after settings left ≡ (step_record all).settings
  pub colliders_are : fold (record_after collider_letter collider_size) colliders left ≡ (step_record all).colliders
  pub bodies_are : fold (record_after body_letter body_size) bodies left ≡ (step_record all).bodies

pub rows_begun : (all : List Line) {left : List Line} {s c b : List ℕ} → left ≡ all → s ≡ zeros settings_length → c ≡ zeros colliders_length → b ≡ zeros bodies_length → RowsRead all left s c b
unfolding step_record
rows_begun all h e f g =
    record {
      settings_size = ap length e ∙ length_zeros settings_length;
      colliders_size = ap length f ∙ length_zeros colliders_length;
      bodies_size = ap length g ∙ length_zeros bodies_length;
      settings_are = λ i. fold settings_after (e i) (h i);
      colliders_are = λ i. fold (record_after collider_letter collider_size) (f i) (h i);
      bodies_are = λ i. fold (record_after body_letter body_size) (g i) (h i);
    }

module _ {all left : List Line} {s c b : List ℕ} (q : RowsRead all left s c b) where
  pub rows_next : {left' : List Line} {ws : List ℕ} {l : Line} {letter : ℕ} {s' c' b' : List ℕ} → left ≡ l ∷ left' → l.letter ≡ letter → Held ws l → RowsTaken letter ws s c b s' c' b' → RowsRead all left' s' c' b'
  unfolding width_of
  rows_next {left'} {ws} {l} {letter} {s'} {c'} {b'} e m held t =
      let u : RowsTaken l.letter ws s c b s' c' b' = subst (λ (n : ℕ). RowsTaken n ws s c b s' c' b') (sym m) t in
      let s-is = u.settings_are ∙ settings_after_lem s held in
      let c-is = u.colliders_are ∙ record_after_lem collider_letter limits.colliders collider_size c held refl (omega arith) q.colliders_size in
      let b-is = u.bodies_are ∙ record_after_lem body_letter limits.bodies body_size b held refl (omega arith) q.bodies_size in
      record {
        settings_size = ap length s-is ∙ length_settings s l ∙ q.settings_size;
        colliders_size = ap length c-is ∙ length_record collider_letter collider_size c l ∙ q.colliders_size;
        bodies_size = ap length b-is ∙ length_record body_letter body_size b l ∙ q.bodies_size;
        settings_are = ap (λ (row : List ℕ). fold settings_after row left') s-is ∙ sym (fold_next settings_after s e) ∙ q.settings_are;
        colliders_are = ap (λ (row : List ℕ). fold (record_after collider_letter collider_size) row left') c-is ∙ sym (fold_next (record_after collider_letter collider_size) c e) ∙ q.colliders_are;
        bodies_are = ap (λ (row : List ℕ). fold (record_after body_letter body_size) row left') b-is ∙ sym (fold_next (record_after body_letter body_size) b e) ∙ q.bodies_are;
      }

  pub rows_done : left ≡ [] → RowsFilled all s c b
  rows_done e =
      record {
        settings_are = sym (fold_end settings_after s e) ∙ q.settings_are;
        colliders_are = sym (fold_end (record_after collider_letter collider_size) c e) ∙ q.colliders_are;
        bodies_are = sym (fold_end (record_after body_letter body_size) b e) ∙ q.bodies_are;
      }

-- ---- a pair's proposal
pub record ProposalRead (all left : List Line) (a b : ℕ) (row : List ℕ) (counts : Counts) : Type 0 where
  pub state : Proposing
  pub follows : Follows state (progress row counts)
  pub whole : proposed (fold (proposing_after a b) state left) ≡ (step_record all).proposal a b

-- the hook says yes, and there is no manifold
pub proposal_begun : (all : List Line) {left : List Line} (a b : ℕ) {row : List ℕ} → left ≡ all → row ≡ set (zeros proposal_size) proposal_hook 1 → ProposalRead all left a b row (record { manifolds = 0; last = None; points = 0 })
unfolding step_record proposal_words with_manifolds zeros put
proposal_begun all a b h e =
    record {
      state = unproposed;
      follows = record { row = e; manifolds = refl; last = refl };
      whole = ap (λ (ls : List Line). proposed (fold (proposing_after a b) unproposed ls)) h;
    }

module _ {all left : List Line} {a b : ℕ} {row : List ℕ} {c : Counts} (q : ProposalRead all left a b row c) where
  pub proposal_next : {left' : List Line} {ws : List ℕ} {l : Line} {letter : ℕ} {row' : List ℕ} {c' : Counts} → left ≡ l ∷ left' → l.letter ≡ letter → Held ws l → progress row' c' ≡ line_taken a b letter ws (progress row c)
      → ProposalRead all left' a b row' c'
  proposal_next {ws = ws} {l = l} e m held t =
      record {
        state = proposing_after a b q.state l;
        follows = subst (Follows (proposing_after a b q.state l)) (sym (t ∙ ap (λ (n : ℕ). line_taken a b n ws (progress row c)) (sym m))) (line_follows a b q.follows held);
        whole = ap proposed (sym (fold_next (proposing_after a b) q.state e)) ∙ q.whole;
      }

  pub proposal_done : left ≡ [] → row ≡ proposal_words ((step_record all).proposal a b)
  proposal_done e = q.follows.row ∙ ap (λ (s : Proposing). proposal_words (proposed s)) (sym (fold_end (proposing_after a b) q.state e)) ∙ ap proposal_words q.whole
