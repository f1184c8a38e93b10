-- The workers' shares: their number, a count for each worker, the entries. Definitions only; docs/BUFFERS.md has the same table.
use Rattle.std.specs.Prelude.{ℕ, ◌+◌}
use Rattle.rules.specs.Limits.{most_workers}

abbrev pub shares_workers : ℕ
shares_workers = 0

abbrev pub shares_counts : ℕ
shares_counts = 1

abbrev pub shares_entries : ℕ
shares_entries = shares_counts + most_workers

abbrev pub shares_length : ℕ → ℕ
shares_length capacity = shares_entries + capacity
