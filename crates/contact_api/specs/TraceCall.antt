-- The promise of the C function for a line of a trace: the number that it answers, and every word of the rows that it is lent. Definitions only.
use Rattle.std.specs.Prelude.{ℕ, ◌≡◌, Bool, cond, not, ◌&&◌, List, [], ◌∷◌, eqb}
use Rattle.words.specs.Words.{word_at, mark_word}
use Rattle.step.specs.Step.{long}
use Rattle.trace_player.specs.Played.{Lent, LineAnswer, refused, ended, played, after_line}
use Rattle.trace_player.specs.declared.player.Player.{Player}
use Rattle.contact_api.specs.Layout.{player_length, play_answer_length}

-- the player in its row: a mark is set by any word but 0
abbrev pub is_set : ℕ → Bool
is_set w = not (eqb w 0)

abbrev pub player_of : List ℕ → Player
player_of row = record { place = word_at row 0; stretch = word_at row 1; after_point = is_set (word_at row 2); settings = is_set (word_at row 3); fits = is_set (word_at row 4) }

abbrev pub player_words : Player → List ℕ
player_words p = p.place ∷ p.stretch ∷ mark_word p.after_point ∷ mark_word p.settings ∷ mark_word p.fits ∷ []

-- ---- what an answer says: the refusal's number or 0, the player's row, and the row lent for the answer
abbrev pub play_number : LineAnswer → ℕ
play_number (refused n) = n
play_number ended = 0
play_number (played p n) = 0

abbrev pub player_row : List ℕ → LineAnswer → List ℕ
player_row row (refused n) = row
player_row row ended = row
player_row row (played p n) = player_words p

-- whether the trace has ended, and how many bytes are written
abbrev pub play_row : List ℕ → LineAnswer → List ℕ
play_row row (refused n) = row
play_row row ended = 1 ∷ 0 ∷ []
play_row row (played p n) = 0 ∷ n ∷ []

pub record AnswerTold (a : LineAnswer) (p b p' b' : List ℕ) (n : ℕ) : Type 0 where
  pub number : n ≡ play_number a
  pub player : p' ≡ player_row p a
  pub answer : b' ≡ play_row b a

-- ---- the call: 1 where the rows of the function's own have not their lengths, and then all as it was
abbrev pub own_play_rows : List ℕ → List ℕ → Bool
own_play_rows player answer = long player player_length && long answer play_answer_length

pub record PlayLineCalled (xs p : List ℕ) (l : Lent) (b p' : List ℕ) (l' : Lent) (b' : List ℕ) (n : ℕ) : Type 0 where
  pub number : n ≡ cond (own_play_rows p b) (play_number (after_line xs (player_of p) l).answer) 1
  pub player : p' ≡ cond (own_play_rows p b) (player_row p (after_line xs (player_of p) l).answer) p
  pub lent : l' ≡ cond (own_play_rows p b) (after_line xs (player_of p) l).lent l
  pub answer : b' ≡ cond (own_play_rows p b) (play_row b (after_line xs (player_of p) l).answer) b
