-- A line's words, as they stand at the front of a row of words. Assumes nothing.
use Rattle.std.specs.Prelude.{ℕ, ◌+◌, ◌<◌, ◌≡◌, length, get_or, drop}
use Rattle.std.proofs.Common.{zero-add, arith, ◌∙◌}
use Rattle.std.proofs.Math.Path.{sym, ap}
use mathlib.Core.List.{List}
use Rattle.std.proofs.Math.ListN.{length-drop}
use Rattle.std.proofs.Math.Seq.{take_all}
use Rattle.rows.specs.Rows.{part}
use Rattle.rows.specs.Laws.{part_part, get_d_part}
use Rattle.words.specs.Words.{word_at}
use Rattle.trace_rules.specs.Fields.{Line}
use Rattle.trace_rules.specs.Records.{word_of}
use Rattle.trace_steps.specs.Lines.{Held}

module _ {ws : List ℕ} {l : Line} (h : Held ws l) where
  pub held_word : (k : ℕ) → k < length l.words → word_at ws k ≡ word_of l k
  held_word k b =
      ap (λ (j : ℕ). get_or ws j 0) (sym (zero-add k)) ∙ sym (get_d_part ws 0 (length l.words) k 0 b) ∙ ap (λ (vs : List ℕ). get_or vs k 0) h.front

  -- all from word k on, and there are m of them
  pub held_rest : (k m : ℕ) → k + m ≡ length l.words → part ws k m ≡ drop k l.words
  unfolding part
  held_rest k m e =
      ap (λ (j : ℕ). part ws j m) (sym (zero-add k)) ∙ sym (part_part ws 0 (length l.words) k m (omega arith)) ∙ ap (λ (vs : List ℕ). part vs k m) h.front
      ∙ take_all m (drop k l.words) (omega (arith, length-drop k l.words))
