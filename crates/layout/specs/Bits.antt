-- The bit words of a step: a part for each worker, a bit for each contact. Definitions only; docs/BUFFERS.md has the same table.
use Rattle.std.specs.Prelude.{ℕ}

-- words of a part, at most: a bit for each of `MOST_CONTACTS`
abbrev pub most_blocks : ℕ
most_blocks = 4
