-- Settings, colliders and bodies: what a line's words leave in a row is what the line does to it. Assumes nothing.
use Rattle.std.specs.Prelude.{ℕ, suc, ◌+◌, ◌-◌, ◌*◌, ◌≤◌, ◌<◌, ◌≡◌, refl, Bool, true, false, cond, List, [], ◌∷◌, eqb, ltb, length, get_or, set, drop}
use Rattle.std.proofs.Common.{mul-le-mul_right, arith, sym, ap, ◌∙◌, eqb-true, ltb-false, length-set}
use Rattle.std.proofs.Math.Seq.{set_out}
use Rattle.rows.specs.Rows.{part, put}
use Rattle.rows.specs.Laws.{length_part, part_next, put_next_one}
use Rattle.words.specs.Words.{word_at}
use Rattle.layout.specs.Settings.{settings_length}
use Rattle.trace_lines.specs.Widths.{width_of}
use Rattle.trace_rules.specs.Fields.{Line, settings_letter}
use Rattle.trace_rules.specs.Records.{word_of, settings_after, record_after}
use Rattle.trace_steps.specs.Lines.{Held, settings_taken, record_stored, record_taken}
use Rattle.trace_steps.specs.LineLaws.{held_word, held_rest}

-- a turn of a loop that copies words from one place to another
pub store_part_step : (xs : List ℕ) (at : ℕ) (ws : List ℕ) (from k : ℕ) {ys : List ℕ} → ys ≡ put xs at (part ws from k) → from + k < length ws
    → set ys (at + k) (get_or ws (from + k) 0) ≡ put xs at (part ws from (k + 1))
store_part_step xs at ws from k p h =
    ap (λ (zs : List ℕ). set zs (at + k) (get_or ws (from + k) 0)) p ∙ put_next_one xs at (part ws from k) (get_or ws (from + k) 0) k (length_part ws from k (omega arith))
    ∙ ap (put xs at) (sym (part_next ws from k 0 h))

-- what is stored past the end of a row changes nothing
pub put_past : (xs : List ℕ) (at : ℕ) (vs : List ℕ) → length xs ≤ at → put xs at vs ≡ xs
unfolding put
put_past xs at [] h = refl
put_past xs at (v ∷ vs) h = put_past (set xs at v) (suc at) vs (simp length-set (omega arith)) ∙ set_out xs at v h

-- one word, and the words behind it
pub put_two : (xs : List ℕ) (at v : ℕ) (vs : List ℕ) → put (set xs at v) (at + 1) vs ≡ put xs at (v ∷ vs)
unfolding put
put_two xs at v vs = ap (λ (k : ℕ). put (set xs at v) k vs) (let e : at + 1 ≡ suc at = omega arith in e)

-- ---- settings
pub settings_after_lem : (row : List ℕ) {ws : List ℕ} {l : Line} → Held ws l → settings_taken l.letter ws row ≡ settings_after row l
unfolding settings_taken settings_after width_of
settings_after_lem row {ws} {l} h = go (eqb l.letter settings_letter) refl
  where
    go : (b : Bool) → eqb l.letter settings_letter ≡ b → cond b (put row 0 (part ws 0 settings_length)) row ≡ cond b (put row 0 l.words) row
    go true e =
        let n : length l.words ≡ settings_length = h.width ∙ ap width_of (eqb-true l.letter settings_letter e) in
        ap (put row 0) (held_rest h 0 settings_length (omega arith))
    go false e = refl

-- ---- a record by its number
record_past : (row : List ℕ) (count size n : ℕ) (vs : List ℕ) → length row ≡ count * size → count ≤ n → put row (n * size) vs ≡ row
record_past row count size n vs e h =
    let d : count * size ≤ n * size = mul-le-mul_right size h in
    put_past row (n * size) vs (omega arith)

pub record_after_lem : (mark count size : ℕ) (row : List ℕ) {ws : List ℕ} {l : Line} → Held ws l → width_of mark ≡ size → 0 < size → length row ≡ count * size
    → record_taken mark count size l.letter ws row ≡ record_after mark size row l
unfolding record_stored record_after
record_after_lem mark count size row {ws} {l} h w some e = go (eqb l.letter mark) (ltb (word_at ws 0) count) refl refl
  where
    go : (b c : Bool) → eqb l.letter mark ≡ b → ltb (word_at ws 0) count ≡ c
        → cond b (cond c (put row (word_at ws 0 * size) (1 ∷ part ws 1 (size - 1))) row) row ≡ cond b (put row (word_of l 0 * size) (1 ∷ drop 1 l.words)) row
    go true true f g =
        let n : length l.words ≡ size = h.width ∙ ap width_of (eqb-true l.letter mark f) ∙ w in
        (λ i. put row (held_word h 0 (omega arith) i * size) (1 ∷ held_rest h 1 (size - 1) (omega arith) i))
    go true false f g =
        let n : length l.words ≡ size = h.width ∙ ap width_of (eqb-true l.letter mark f) ∙ w in
        sym (record_past row count size (word_at ws 0) (1 ∷ drop 1 l.words) e (ltb-false (word_at ws 0) count g))
        ∙ ap (λ (k : ℕ). put row (k * size) (1 ∷ drop 1 l.words)) (held_word h 0 (omega arith))
    go false c f g = refl
