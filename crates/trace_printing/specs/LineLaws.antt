-- The lines of events and changes: their cells, their lengths, one after another. Assumes nothing.
use Rattle.std.specs.Prelude.{◌≡◌, Bool, true, false, cond, ℕ, ◌+◌, ◌*◌, ◌≤◌, ◌<◌, eqb, length, take, get_or}
use Rattle.std.proofs.Math.Path.{refl, ap}
use Rattle.std.proofs.Common.{sym, subst, ◌∙◌, add-one, add_assoc, eq-eqb, ne_eqb, length-append, length-take}
use Rattle.std.proofs.Math.Seq.{take-suc, take_all}
use mathlib.Core.List.{List, [], ◌∷◌, ◌++◌, map, map-append, append_assoc, append-nil}
use native.Mathlib.Omega.{arith}
use Rattle.std.proofs.lemmas.List.{length-map}
use Rattle.rows.specs.Rows.{each}
use Rattle.rows.specs.EachLaws.{each_append}
use Rattle.rows.specs.Slots.{upto}
use Rattle.rows.specs.SlotLaws.{length_upto}
use Rattle.rules.specs.Status.{Event, started, ended, Change, start, stop, count}
use Rattle.words.specs.Words.{word_at, if_marked}
use Rattle.layout.specs.Change.{change_body1, change_body2, change_contact, change_count}
use Rattle.contact_records.specs.Recorded.{int_of}
use Rattle.contact_graph.specs.Calls.{optional}
use Rattle.step.specs.Read.{names_at, event_at, change_at}
use Rattle.status_pass.specs.Listed.{event_number}
use Rattle.status_pass.specs.declared.events.EventKind.{EventKind}
use Rattle.text.specs.Text.{Written, line_feed}
use Rattle.text.specs.WrittenLaws.{written_then}
use Rattle.trace_rules.specs.Printed.{Cell, number, cell_text, cells_text, printed_line, optional_cell, event_letter, event_cells, event_text, change_letter, change_text, change_cells}
use Rattle.trace_printing.specs.CellLaws.{length_cell}
use Rattle.trace_printing.specs.Lines.{cell_room, event_room, change_room}

-- ---- lengths
length_cells : (cs : List Cell) → length (cells_text cs) ≤ length cs * cell_room + 1
unfolding cells_text
length_cells [] = omega arith
length_cells (c ∷ cs) =
    let a = length-append (cell_text c) (cells_text cs) in
    let h = length_cell c in
    let r = length_cells cs in
    omega (arith, a, h, r)

pub length_event : (e : Event) → length (event_text e) ≤ event_room
unfolding event_text
length_event (started n) = let h = length_cells (event_cells 0 n) in omega (arith, h)
length_event (ended n) = let h = length_cells (event_cells 1 n) in omega (arith, h)

pub length_change : (c : Change) → length (change_text c) ≤ change_room
unfolding change_text
length_change (start id) = let h = length_cells (change_cells (start id)) in omega (arith, h)
length_change (stop id a b) = let h = length_cells (change_cells (stop id a b)) in omega (arith, h)
length_change (count id a b d) = let h = length_cells (change_cells (count id a b d)) in omega (arith, h)

-- a letter and two cells, and two cells
pub length_two : (a b : Cell) → length (cell_text a ++ cell_text b) ≤ 2 * cell_room
length_two a b =
    let l = length-append (cell_text a) (cell_text b) in
    let h = length_cell a in
    let k = length_cell b in
    omega (arith, l, h, k)

pub length_first : (letter : ℕ) (a b : Cell) → length (letter ∷ cell_text a ++ cell_text b) ≤ 2 * cell_room + 1
length_first letter a b = let h = length_two a b in omega (arith, h)

-- ---- an event's body: its mark and the number behind it
pub body_read : (row : List ℕ) (at k : ℕ) → if_marked word_at row (at + k) ≡ optional (word_at row (at + k)) (word_at row (at + (k + 1)))
unfolding if_marked
body_read row at k = ap (λ (n : ℕ). optional (word_at row (at + k)) (word_at row n)) (add_assoc at k 1)

-- ---- an event's line, whichever its kind
pub event_line : (row : List ℕ) (at : ℕ) → event_text (event_at row at) ≡ printed_line event_letter (event_cells (cond (eqb (word_at row at) 0) 0 1) (names_at row at))
unfolding event_at event_text
event_line row at = picked (eqb (word_at row at) 0)
  where
    picked : (t : Bool) → event_text (cond t (started (names_at row at)) (ended (names_at row at))) ≡ printed_line event_letter (event_cells (cond t 0 1) (names_at row at))
    picked true = refl
    picked false = refl

line_parts : (letter : ℕ) (a b : Cell) (cs : List Cell) → printed_line letter (a ∷ b ∷ cs) ≡ (letter ∷ cell_text a ++ cell_text b) ++ cells_text cs
unfolding cells_text
line_parts letter a b cs = ap (λ (ws : List ℕ). letter ∷ ws) (sym (append_assoc (cell_text a) (cell_text b) (cells_text cs)))

cells_parts : (a b : Cell) (cs : List Cell) → cells_text (a ∷ b ∷ cs) ≡ (cell_text a ++ cell_text b) ++ cells_text cs
unfolding cells_text
cells_parts a b cs = sym (append_assoc (cell_text a) (cell_text b) (cells_text cs))

-- an event is written: its letter and first two cells, its colliders, its bodies
pub event_written : {out out₁ out₂ out₃ : List ℕ} {place p q r : ℕ} (row : List ℕ) (at : ℕ) (kind contact collider1 collider2 : ℕ) (x y : Cell)
    → kind ≡ cond (eqb (word_at row at) 0) 0 1 → contact ≡ (names_at row at).id → collider1 ≡ (names_at row at).collider1 → collider2 ≡ (names_at row at).collider2
    → x ≡ optional_cell (names_at row at).body1 → y ≡ optional_cell (names_at row at).body2
    → Written out place (event_letter ∷ cell_text (number kind) ++ cell_text (number contact)) out₁ p → Written out₁ p (cell_text (number collider1) ++ cell_text (number collider2)) out₂ q
    → Written out₂ q (cells_text (x ∷ y ∷ [])) out₃ r → Written out place (event_text (event_at row at)) out₃ r
event_written {out} {out₁} {out₂} {out₃} {place} {p} {q} {r} row at kind contact collider1 collider2 x y ek ec e1 e2 ex ey w1 w2 w3 =
    let t = written_then (event_letter ∷ cell_text (number kind) ++ cell_text (number contact)) ((cell_text (number collider1) ++ cell_text (number collider2)) ++ cells_text (x ∷ y ∷ []))
    w1 (written_then (cell_text (number collider1) ++ cell_text (number collider2)) (cells_text (x ∷ y ∷ [])) w2 w3) in
    let parts : printed_line event_letter (number kind ∷ number contact ∷ number collider1 ∷ number collider2 ∷ x ∷ y ∷ [])
    ≡ (event_letter ∷ cell_text (number kind) ++ cell_text (number contact)) ++ ((cell_text (number collider1) ++ cell_text (number collider2)) ++ cells_text (x ∷ y ∷ []))
    = line_parts event_letter (number kind) (number contact) (number collider1 ∷ number collider2 ∷ x ∷ y ∷ [])
    ∙ ap (λ (ws : List ℕ). (event_letter ∷ cell_text (number kind) ++ cell_text (number contact)) ++ ws) (cells_parts (number collider1) (number collider2) (x ∷ y ∷ [])) in
    let cells : number kind ∷ number contact ∷ number collider1 ∷ number collider2 ∷ x ∷ y ∷ [] ≡ event_cells (cond (eqb (word_at row at) 0) 0 1) (names_at row at) = rw (ek, ec, e1, e2, ex, ey) in
    subst (λ (ws : List ℕ). Written out place ws out₃ r) (sym (event_line row at ∙ ap (printed_line event_letter) (sym cells) ∙ parts)) t

-- a change: its letter and first two cells, the other three
pub change_written : {out out₁ out₂ : List ℕ} {place p r : ℕ} (c : Change) (kind contact : ℕ) (x y z : Cell) → number kind ∷ number contact ∷ x ∷ y ∷ z ∷ [] ≡ change_cells c
    → Written out place (change_letter ∷ cell_text (number kind) ++ cell_text (number contact)) out₁ p → Written out₁ p (cells_text (x ∷ y ∷ z ∷ [])) out₂ r → Written out place (change_text c) out₂ r
unfolding change_text
change_written {out} {out₁} {out₂} {place} {p} {r} c kind contact x y z e w1 w2 =
    subst (λ (ws : List ℕ). Written out place ws out₂ r) (sym (ap (printed_line change_letter) (sym e) ∙ line_parts change_letter (number kind) (number contact) (x ∷ y ∷ z ∷ [])))
    (written_then (change_letter ∷ cell_text (number kind) ++ cell_text (number contact)) (cells_text (x ∷ y ∷ z ∷ [])) w1 w2)

-- which change it is, by its kind
pub start_at : (row : List ℕ) (at : ℕ) → word_at row at ≡ 0 → change_at row at ≡ start (word_at row (at + change_contact))
unfolding change_at
start_at row at e = rw (eq-eqb (word_at row at) 0 e)

pub stop_at : (row : List ℕ) (at : ℕ) → word_at row at ≡ 1 → change_at row at ≡ stop (word_at row (at + change_contact)) (word_at row (at + change_body1)) (word_at row (at + change_body2))
unfolding change_at
stop_at row at e = rw e

pub count_at : (row : List ℕ) (at : ℕ) → (word_at row at ≡ 0 → ⊥) → (word_at row at ≡ 1 → ⊥)
    → change_at row at ≡ count (word_at row (at + change_contact)) (word_at row (at + change_body1)) (word_at row (at + change_body2)) (int_of (word_at row (at + change_count)))
unfolding change_at
count_at row at n m = rw (ne_eqb (word_at row at) 0 n, ne_eqb (word_at row at) 1 m)

-- ---- one line after another
pub lines_short : {A : Type 0} (text : A → List ℕ) (room : ℕ) → ((a : A) → length (text a) ≤ room) → (as' : List A) → length (each text as') ≤ length as' * room
lines_short text room short [] = omega arith
lines_short text room short (a ∷ as') =
    let l = length-append (text a) (each text as') in
    let h = short a in
    let r = lines_short text room short as' in
    omega (arith, l, h, r)

module _ {A : Type 0} (text : A → List ℕ) (read : ℕ → A) (room : ℕ) (short : (a : A) → length (text a) ≤ room) where
  pub length_lines : (k : ℕ) → length (each text (map read (upto k))) ≤ k * room
  length_lines k =
      let e : length (map read (upto k)) ≡ k = length-map (upto k) read ∙ length_upto k in
      subst (λ (n : ℕ). length (each text (map read (upto k))) ≤ n * room) e (lines_short text room short (map read (upto k)))

  -- the first k lines are written
  pub record LinesWritten (out : List ℕ) (at k : ℕ) (out' : List ℕ) (place : ℕ) : Type 0 where
    pub lines : Written out at (each text (map read (upto k))) out' place
    pub below : place ≤ at + k * room

  pub no_lines : (out : List ℕ) (at : ℕ) → LinesWritten out at 0 out at
  unfolding upto Rattle.rows.specs.Rows.put
  no_lines out at = record { lines = record { count = omega arith; stored = refl }; below = omega arith }

  next_text : (k : ℕ) → each text (map read (upto (k + 1))) ≡ each text (map read (upto k)) ++ text (read k)
  unfolding upto
  next_text k =
      ap (λ (n : ℕ). each text (map read (upto n))) (add-one k) ∙ ap (each text) (map-append read (upto k) (k ∷ [])) ∙ each_append text (map read (upto k)) (read k ∷ [])
      ∙ ap (λ (ws : List ℕ). each text (map read (upto k)) ++ ws) (append-nil (text (read k)))

  pub next_line : (out : List ℕ) (at k : ℕ) (out' out'' : List ℕ) (place r : ℕ) → LinesWritten out at k out' place → Written out' place (text (read k)) out'' r → LinesWritten out at (k + 1) out'' r
  next_line out at k out' out'' place r w s =
      let h = short (read k) in
      record {
        lines = subst (λ (ws : List ℕ). Written out at ws out'' r) (sym (next_text k)) (written_then (each text (map read (upto k))) (text (read k)) w.lines s);
        below = omega (arith, s.count, w.below, h);
      }

-- ---- a line written cell by cell
length_each : (cs : List Cell) → length (each cell_text cs) ≤ length cs * cell_room
length_each [] = omega arith
length_each (c ∷ cs) =
    let a = length-append (cell_text c) (each cell_text cs) in
    let h = length_cell c in
    let r = length_each cs in
    omega (arith, a, h, r)

cells_each : (cs : List Cell) → cells_text cs ≡ each cell_text cs ++ line_feed ∷ []
unfolding cells_text
cells_each [] = refl
cells_each (c ∷ cs) = ap (λ (ws : List ℕ). cell_text c ++ ws) (cells_each cs) ∙ sym (append_assoc (cell_text c) (each cell_text cs) (line_feed ∷ []))

-- the letter and the first k cells are written
abbrev pub CellsWritten : List ℕ → ℕ → ℕ → List Cell → ℕ → List ℕ → ℕ → Type 0
CellsWritten out at letter cs k out' next = Written out at (letter ∷ each cell_text (take k cs)) out' next

module _ {out out' : List ℕ} {at letter next : ℕ} (cs : List Cell) where
  pub cells_room : (k : ℕ) → CellsWritten out at letter cs k out' next → k ≤ length cs → next ≤ at + (k * cell_room + 1)
  cells_room k w h = let l = length_each (take k cs) in let t : length (take k cs) ≡ k = simp length-take (omega arith) in omega (arith, w.count, l, t)

  pub cells_next : (k : ℕ) (c : Cell) {out'' : List ℕ} {r : ℕ} → CellsWritten out at letter cs k out' next → k < length cs → c ≡ get_or cs k c → Written out' next (cell_text c) out'' r
      → CellsWritten out at letter cs (k + 1) out'' r
  cells_next k c {out''} {r} w h e v =
      subst (λ (ws : List ℕ). Written out at (letter ∷ ws) out'' r) (sym (ap (each cell_text) (rw (add-one, take-suc cs k c h, ← e)) ∙ each_append cell_text (take k cs) (c ∷ []) ∙ ap (λ (ws : List ℕ). each cell_text (take k cs) ++ ws) (append-nil (cell_text c))))
      (written_then (letter ∷ each cell_text (take k cs)) (cell_text c) w v)

  pub cells_ended : {k : ℕ} {out'' : List ℕ} {r : ℕ} → CellsWritten out at letter cs k out' next → length cs ≤ k → Written out' next (line_feed ∷ []) out'' r → Written out at (printed_line letter cs) out'' r
  cells_ended {k} {out''} {r} w h v =
      subst (λ (ws : List ℕ). Written out at (letter ∷ ws) out'' r) (ap (λ (us : List Cell). each cell_text us ++ line_feed ∷ []) (take_all k cs h) ∙ sym (cells_each cs))
      (written_then (letter ∷ each cell_text (take k cs)) (line_feed ∷ []) w v)

-- an event's line, from its cells
pub event_printed : (row : List ℕ) (at : ℕ) (k : EventKind) {kind contact collider1 collider2 : ℕ} {x y : Cell}
    → kind ≡ event_number k → event_number k ≡ cond (eqb (word_at row at) 0) 0 1 → contact ≡ (names_at row at).id → collider1 ≡ (names_at row at).collider1 → collider2 ≡ (names_at row at).collider2
    → x ≡ optional_cell (names_at row at).body1 → y ≡ optional_cell (names_at row at).body2
    → printed_line event_letter (number kind ∷ number contact ∷ number collider1 ∷ number collider2 ∷ x ∷ y ∷ []) ≡ event_text (event_at row at)
event_printed row at k et ek ec e1 e2 ex ey = rw (et ∙ ek, ec, e1, e2, ex, ey) (sym (event_line row at))

-- a change's line, from its cells
pub change_printed : {cs : List Cell} (c : Change) → cs ≡ change_cells c → printed_line change_letter cs ≡ change_text c
unfolding change_text
change_printed c e = ap (printed_line change_letter) e
