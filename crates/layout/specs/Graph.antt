-- The graph's head. After it stand the list, the free ids and the records, by the capacity. Definitions only; docs/BUFFERS.md has the same table.
use Rattle.std.specs.Prelude.{ℕ, ◌+◌, ◌*◌}
use Rattle.rows.specs.Slots.{slot}
use Rattle.layout.specs.Contact.{contact_size}

abbrev pub graph_capacity : ℕ
graph_capacity = 0

-- ids given, pairs listed, ids free
abbrev pub graph_given : ℕ
graph_given = 1

abbrev pub graph_listed : ℕ
graph_listed = 2

abbrev pub graph_freed : ℕ
graph_freed = 3

abbrev pub graph_list : ℕ
graph_list = 4

-- the free ids, in the order freed; the records
abbrev pub graph_free : ℕ → ℕ
graph_free capacity = graph_list + capacity

abbrev pub graph_contacts : ℕ → ℕ
graph_contacts capacity = graph_list + 2 * capacity

-- where a contact's record begins
abbrev pub contact_place : ℕ → ℕ → ℕ
contact_place capacity id = slot (graph_contacts capacity) contact_size id

abbrev pub graph_length : ℕ → ℕ
graph_length capacity = graph_contacts capacity + capacity * contact_size
