-- Lines that a later one replaces. Definitions only; the theorem is `replaced` in ReplacedLaws.
use Rattle.std.specs.Prelude.{ℕ, ◌≡◌, true, length}
use Rattle.layout.specs.Body.{body_size}
use Rattle.layout.specs.Collider.{collider_size}
use Rattle.layout.specs.Settings.{settings_length}
use Rattle.contact_range.specs.Range.{same_colliders}
use Rattle.trace_rules.specs.Fields.{Line, settings_letter, collider_letter, body_letter, hook_letter}
use Rattle.trace_rules.specs.Reading.{is}
use Rattle.trace_rules.specs.Records.{word_of}

-- both lines are of that letter, with so many words: as many as its record has, in every trace (`readable_both` in ReadableLaws)
pub record Both (letter size : ℕ) (l m : Line) : Type 0 where
  pub first : is letter l ≡ true
  pub second : is letter m ≡ true
  pub first_words : length l.words ≡ size
  pub second_words : length m.words ≡ size

-- of two lines, the second replaces the first: two T, two C or two B of one number, two H of one pair in either order
pub data Replaces : Line → Line → Type 0 where
  settings : {l m : Line} → Both settings_letter settings_length l m → Replaces l m
  collider : {l m : Line} → Both collider_letter collider_size l m → word_of l 0 ≡ word_of m 0 → Replaces l m
  body : {l m : Line} → Both body_letter body_size l m → word_of l 0 ≡ word_of m 0 → Replaces l m
  hook : {l m : Line} → is hook_letter l ≡ true → is hook_letter m ≡ true → same_colliders (word_of l 0) (word_of l 1) (word_of m 0) (word_of m 1) ≡ true → Replaces l m
