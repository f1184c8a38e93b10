-- The promise of `play_line` has one outcome, and no other: the answer itself, every lent word and byte. Assumes nothing.
use Rattle.std.specs.Prelude.{ℕ, ◌≡◌, Bool, cond, not, List, leb, length, Ok, Some, None, Err, Result, Option}
use Rattle.std.proofs.Math.Path.{refl}
use Rattle.std.proofs.Common.{sym, ap, ◌∙◌}
use Rattle.std.proofs.Math.Bool.{true, false}
use Rattle.contact_types.specs.RefusalLaws.{same_by, refusal_for, refusal_for_lem}
use Rattle.trace_player.specs.declared.player.Player.{Player}
use Rattle.trace_player.specs.Player.{Asked, unreadable_line, readable_line, asked}
use Rattle.trace_player.specs.Played.{Lent, lent_fits, LineAnswer, refused, ended, played, plain_answer, AfterLine, asked_after, after_line, LinePlayed}
use Rattle.contact_types.specs.declared.refusal.Refusal.{Refusal}
use Rattle.trace_player.specs.declared.play.PlayedLine.{PlayedLine}

abbrev line_of : LineAnswer → Result (Option PlayedLine) Refusal
line_of (played player written) = Ok (Some (record { player = player; written = written }))
line_of ended = (Ok None)
line_of (refused n) = Err (refusal_for n)

line_of_lem : (r : Result (Option PlayedLine) Refusal) → line_of (plain_answer r) ≡ r
line_of_lem (Ok (Some l)) = refl
line_of_lem (Ok None) = refl
line_of_lem (Err r) = ap Err (refusal_for_lem r)

module _ (xs : List ℕ) (p : Player) (l : Lent) where
  pub play_line_determined : {l' l'' : Lent} {r r' : Result (Option PlayedLine) Refusal} → LinePlayed xs p l l' r → LinePlayed xs p l l'' r' → (r' ≡ r) × (l'' ≡ l')
  play_line_determined a b = (same_by plain_answer line_of line_of_lem a.answer b.answer, b.lent ∙ sym a.lent)

  asked_answer : (a : Asked) → plain_answer (line_of (asked_after xs p l a).answer) ≡ (asked_after xs p l a).answer
  asked_answer unreadable_line = refl
  asked_answer (readable_line line next) = refl

  abbrev after : Bool → Bool → AfterLine
  after a b = cond (not a) (record { answer = refused 1; lent = l }) (cond b (record { answer = ended; lent = l }) (asked_after xs p l (asked xs p)))

  line_answer : plain_answer (line_of (after_line xs p l).answer) ≡ (after_line xs p l).answer
  unfolding after_line
  line_answer = tests (lent_fits l) (leb (length xs) p.place)
    where
      tests : (a b : Bool) → plain_answer (line_of (after a b).answer) ≡ (after a b).answer
      tests false b = refl
      tests true true = refl
      tests true false = asked_answer (asked xs p)

  pub play_line_answered : (r : Result (Option PlayedLine) Refusal) × LinePlayed xs p l (after_line xs p l).lent r
  play_line_answered = (line_of (after_line xs p l).answer, record { answer = line_answer; lent = refl })
