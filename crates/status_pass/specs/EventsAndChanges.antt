-- The words of contact events and of constraint changes. Definitions only; docs/BUFFERS.md has the same tables.
use Rattle.std.specs.Prelude.{ℕ, List, [], ◌∷◌, ◌++◌}
use Rattle.rules.specs.Records.{Names}
use Rattle.rules.specs.Status.{Event, started, ended, Change, start, stop, count}
use Rattle.contact_records.specs.Written.{optional_words, int_word}

-- ---- an event: 0 started or 1 ended, the contact's id, its colliders, and its bodies (a mark and a number each)
abbrev pub named_words : ℕ → Names → List ℕ
named_words kind n = kind ∷ n.id ∷ n.collider1 ∷ n.collider2 ∷ optional_words n.body1 ++ optional_words n.body2

unfoldable pub event_words : Event → List ℕ
event_words (started n) = named_words 0 n
event_words (ended n) = named_words 1 n

-- ---- a change: 0 start, 1 stop or 2 count, the contact's id, bodies 1 and 2, the change of the count; 0 where it has none
unfoldable pub change_words : Change → List ℕ
change_words (start id) = 0 ∷ id ∷ 0 ∷ 0 ∷ 0 ∷ []
change_words (stop id a b) = 1 ∷ id ∷ a ∷ b ∷ 0 ∷ []
change_words (count id a b d) = 2 ∷ id ∷ a ∷ b ∷ int_word d ∷ []
