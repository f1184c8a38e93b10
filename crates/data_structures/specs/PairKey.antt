-- The key of a pair of identifiers, and the two that a key holds. Definitions only; from avian's pair_key.rs.
use Rattle.std.specs.Prelude.{ℕ, ◌+◌, ◌*◌, ◌/◌, ◌%◌, ◌^◌, cond, ltb}
use Rattle.data_structures.specs.declared.pair_key.PairIds.{PairIds}

-- the lower number in the high 32 bits
unfoldable pub key_of : ℕ → ℕ → ℕ
key_of a b = cond (ltb a b) (a * 2 ^ 32 + b) (b * 2 ^ 32 + a)

unfoldable pub ids_of : ℕ → PairIds
ids_of key = record { lower = key / 2 ^ 32; higher = key % 2 ^ 32 }
