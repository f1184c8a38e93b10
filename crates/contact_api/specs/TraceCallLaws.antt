-- The C function for a line of a trace, from what its parts answer; its promise has one outcome. Assumes nothing.
use Rattle.std.specs.Prelude.{ℕ, ◌<◌, ◌≡◌, refl, true, false, cond, List, [], ◌∷◌, length, set, Result, Option}
use Rattle.std.proofs.Common.{arith, sym, ap, subst, ◌∙◌, eqb-true, length-set}
use Rattle.step.specs.Step.{long}
use Rattle.trace_player.specs.Played.{Lent, plain_answer, after_line, LinePlayed}
use Rattle.trace_player.specs.PlayLaws.{first_true, second_true}
use Rattle.trace_player.specs.declared.player.Player.{Player}
use Rattle.contact_api.specs.Layout.{player_length, play_answer_length}
use Rattle.contact_api.specs.TraceCall.{player_of, play_number, player_row, play_row, own_play_rows, AnswerTold, PlayLineCalled}
use Rattle.contact_types.specs.declared.refusal.Refusal.{Refusal}
use Rattle.trace_player.specs.declared.play.PlayedLine.{PlayedLine}

-- ---- words stored one by one
pub two_stored : (row : List ℕ) → length row ≡ play_answer_length → (a b : ℕ) → set (set row 0 a) 1 b ≡ a ∷ b ∷ []
two_stored [] e a b = absurd (omega (arith, e))
two_stored (v ∷ []) e a b = absurd (omega (arith, e))
two_stored (v ∷ w ∷ []) e a b = refl
two_stored (v ∷ w ∷ x ∷ row) e a b = absurd (omega (arith, e))

pub fifth_there : (row : List ℕ) → length row ≡ player_length → (a b c d : ℕ) → 4 < length (set (set (set (set row 0 a) 1 b) 2 c) 3 d)
fifth_there row e a b c d =
    let p = length-set row 0 a in
    let q = length-set (set row 0 a) 1 b in
    let r = length-set (set (set row 0 a) 1 b) 2 c in
    let s = length-set (set (set (set row 0 a) 1 b) 2 c) 3 d in
    omega (arith, e, p, q, r, s)

pub five_stored : (row : List ℕ) → length row ≡ player_length → (a b c d f : ℕ) → set (set (set (set (set row 0 a) 1 b) 2 c) 3 d) 4 f ≡ a ∷ b ∷ c ∷ d ∷ f ∷ []
five_stored [] e a b c d f = absurd (omega (arith, e))
five_stored (v ∷ []) e a b c d f = absurd (omega (arith, e))
five_stored (v ∷ w ∷ []) e a b c d f = absurd (omega (arith, e))
five_stored (v ∷ w ∷ x ∷ []) e a b c d f = absurd (omega (arith, e))
five_stored (v ∷ w ∷ x ∷ y ∷ []) e a b c d f = absurd (omega (arith, e))
five_stored (v ∷ w ∷ x ∷ y ∷ z ∷ []) e a b c d f = refl
five_stored (v ∷ w ∷ x ∷ y ∷ z ∷ u ∷ row) e a b c d f = absurd (omega (arith, e))

-- ---- the function's own rows
pub own_lengths : (p b : List ℕ) → own_play_rows p b ≡ true → (length p ≡ player_length) × (length b ≡ play_answer_length)
own_lengths p b e =
    (eqb-true (length p) player_length (first_true (long p player_length) (long b play_answer_length) e), eqb-true (length b) play_answer_length (second_true (long p player_length) (long b play_answer_length) e))

pub played_for : {xs : List ℕ} {p q : Player} {l l' : Lent} {r : Result (Option PlayedLine) Refusal} → p ≡ q → LinePlayed xs p l l' r → LinePlayed xs q l l' r
played_for {xs} {p} {q} {l} {l'} {r} e m = subst (λ (o : Player). LinePlayed xs o l l' r) e m

module _ (xs p : List ℕ) (l : Lent) (b : List ℕ) where
  pub own_refused : own_play_rows p b ≡ false → PlayLineCalled xs p l b p l b 1
  own_refused e = record { number = rw e; player = rw e; lent = rw e; answer = rw e }

  pub line_called : (l' : Lent) (r : Result (Option PlayedLine) Refusal) (p' b' : List ℕ) (n : ℕ) → own_play_rows p b ≡ true → LinePlayed xs (player_of p) l l' r → AnswerTold (plain_answer r) p b p' b' n
      → PlayLineCalled xs p l b p' l' b' n
  line_called l' r p' b' n e m t =
      record {
        number = t.number ∙ ap play_number m.answer ∙ sym (picked (play_number (after_line xs (player_of p) l).answer) 1);
        player = t.player ∙ ap (player_row p) m.answer ∙ sym (picked (player_row p (after_line xs (player_of p) l).answer) p);
        lent = m.lent ∙ sym (picked (after_line xs (player_of p) l).lent l);
        answer = t.answer ∙ ap (play_row b) m.answer ∙ sym (picked (play_row b (after_line xs (player_of p) l).answer) b);
      }
    where
      picked : {A : Type 0} (x y : A) → cond (own_play_rows p b) x y ≡ x
      picked x y = rw e

  -- the number and every lent word
  pub play_line_called_determined : {p' p'' b' b'' : List ℕ} {l' l'' : Lent} {n m : ℕ} → PlayLineCalled xs p l b p' l' b' n → PlayLineCalled xs p l b p'' l'' b'' m
      → (m ≡ n) × (p'' ≡ p') × (l'' ≡ l') × (b'' ≡ b')
  play_line_called_determined c e = (e.number ∙ sym c.number, e.player ∙ sym c.player, e.lent ∙ sym c.lent, e.answer ∙ sym c.answer)
