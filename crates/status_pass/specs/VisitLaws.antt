-- The pass as the code makes it: a visit over the contact's own record, and the lists that grow. Assumes nothing.
use Rattle.std.specs.Prelude.{ℕ, ◌+◌, ◌*◌, ◌≤◌, ◌<◌, ◌≡◌, true, get_or, drop, Option, None, Some}
use Rattle.std.proofs.Common.{zero-add, zero-mul, add_assoc, arith, subst₂, ◌∙◌, length-append, length-take-le}
use Rattle.std.proofs.Math.Path.{refl, sym, ap, subst}
use mathlib.Core.List.{List, ◌++◌}
use Rattle.std.proofs.Math.ListN.{length, take}
use Rattle.rows.specs.Rows.{part, put, each}
use Rattle.rows.specs.Laws.{length_put, length_part, put_next, put_lent}
use Rattle.rows.specs.EachLaws.{each_append, length_each}
use Rattle.rules.specs.Records.{Pair, Names}
use Rattle.rules.specs.Status.{Event, started, ended, Change, start, stop, count, verdict, changes_for, events_for}
use Rattle.rules.specs.Status as rules
use Rattle.contact_records.specs.ApartLaws.{pair_part}
use Rattle.layout.specs.Contact.{contact_size}
use Rattle.contact_records.specs.Recorded.{pair_at}
use Rattle.contact_records.specs.Written.{optional_words}
use Rattle.contact_range.specs.Checked.{Checked}
use Rattle.contact_range.specs.Range.{stands}
use Rattle.contact_range.specs.RangeLaws.{standing_fits, standing_below}
use Rattle.contact_range.specs.Recorded.{contact_at}
use Rattle.contact_graph.specs.EffectLaws.{contact_room}
use Rattle.status_pass.specs.EventsAndChanges.{event_words, change_words}
use Rattle.status_pass.specs.Settled.{settled_words}
use Rattle.status_pass.specs.Listed.{Appended, EventsWritten, ChangesWritten}
use Rattle.status_pass.specs.Pass.{settled_graph, visited_graph, Passing, begun, visited_pair, visit_words, pass_words, VisitReady, VisitDone, RowsReady, Left}
use Rattle.status_pass.specs.PassLaws.{pass_next, pass_at, pass_events, pass_changes}
use Rattle.status_pass.specs.SettleLaws.{settled_length}
use Rattle.status_pass.specs.Verdicts.{plain_verdict, VerdictIs}
use Rattle.status_pass.specs.declared.verdict.Verdict.{Verdict}
use Rattle.status_pass.specs.declared.visit.WrittenCounts.{WrittenCounts}
use Rattle.layout.specs.Change.{change_size}
use Rattle.layout.specs.Event.{event_size}

-- ---- the contact's own record, as it is lent on
module _ {g : List ℕ} (id : ℕ) (c : Checked g) (s : stands g id ≡ true) {at n : ℕ} (p : at ≡ contact_at g id) (q : n ≡ contact_size) where
  pub own_room : at + n ≤ length g
  own_room = let b = contact_room c.right id (standing_below c.range id s) in omega arith

  own_part : take n (drop at g) ≡ part g (contact_at g id) contact_size
  unfolding part
  own_part = λ i. take (q i) (drop (p i) g)

  pub own_length : length (take n (drop at g)) ≡ contact_size
  own_length = ap (λ (w : List ℕ). length w) own_part ∙ length_part g (contact_at g id) contact_size (contact_room c.right id (standing_below c.range id s))

  pub own_pair : pair_at (take n (drop at g)) 0 id ≡ visited_pair g id
  own_pair =
      let t = standing_fits c.range id s in
      ap (λ (w : List ℕ). pair_at w 0 id) own_part ∙ pair_part g (contact_at g id) id (record { manifolds = t.manifolds; points = t.points })

  pub own_settled : (v : rules.Verdict) {ys : List ℕ} → ys ≡ settled_words v (take n (drop at g)) → take at g ++ (ys ++ drop n (drop at g)) ≡ settled_graph v id g
  unfolding settled_graph
  own_settled v {ys} e =
      put_lent g at ys n (ap (λ (w : List ℕ). length w) e ∙ settled_length v (take n (drop at g)) ∙ own_length ∙ sym q) own_room
      ∙ (λ i. put g (p i) ((e ∙ ap (settled_words v) own_part) i))

-- ---- one visit
module _ {g es cs g' es' cs' w : List ℕ} {id : ℕ} {v : Verdict} (n m : ℕ) (r : WrittenCounts) where
  pub visit_done : pair_at w 0 id ≡ visited_pair g id → VerdictIs w v → EventsWritten es n (events_for (plain_verdict v) (pair_at w 0 id)) es' r.events
      → ChangesWritten cs m (changes_for (plain_verdict v) (pair_at w 0 id)) cs' r.changes → g' ≡ visited_graph (plain_verdict v) id g → VisitDone g es cs id n m g' es' cs' r
  visit_done e is x y z =
      let f : plain_verdict v ≡ verdict (visited_pair g id) = is.under id ∙ ap verdict e in
      record {
        graph = z ∙ ap (λ (u : rules.Verdict). visited_graph u id g) f;
        events = subst₂ (λ (u : rules.Verdict) (p : Pair). EventsWritten es n (events_for u p) es' r.events) f e x;
        changes = subst₂ (λ (u : rules.Verdict) (p : Pair). ChangesWritten cs m (changes_for u p) cs' r.changes) f e y;
      }

-- ---- lists that grow
pub appended_next : {A : Type 0} (words : A → List ℕ) (size : ℕ) → ((a : A) → length (words a) ≡ size) → {row row' row'' : List ℕ} {xs ys : List A} {n r : ℕ}
    → Appended words size row 0 xs row' n → Appended words size row' n ys row'' r → Appended words size row 0 (xs ++ ys) row'' r
appended_next {A} words size sized {row} {row'} {row''} {xs} {ys} {n} {r} a b =
    let e : n ≡ length xs = a.count ∙ zero-add (length xs) in
    let l : length (each words xs) ≡ n * size = length_each words size sized xs ∙ ap (λ (k : ℕ). k * size) (sym e) in
    record {
      stored =
          b.stored ∙ ap (λ (w : List ℕ). put w (n * size) (each words ys)) a.stored
          ∙ ap (λ (k : ℕ). put (put row k (each words xs)) (n * size) (each words ys)) (zero-mul size)
          ∙ ap (λ (k : ℕ). put (put row 0 (each words xs)) k (each words ys)) (sym (zero-add (n * size)))
          ∙ put_next row 0 (each words xs) (each words ys) (n * size) l
          ∙ (λ i. put row (sym (zero-mul size) i) (sym (each_append words xs ys) i));
      count = b.count ∙ ap (λ (k : ℕ). k + length ys) a.count ∙ add_assoc 0 (length xs) (length ys) ∙ ap (λ (k : ℕ). 0 + k) (sym (length-append xs ys));
    }

optional_size : (o : Option ℕ) → length (optional_words o) ≡ 2
unfolding optional_words
optional_size None = refl
optional_size (Some n) = refl

named_size : (n : Names) → length (optional_words n.body1 ++ optional_words n.body2) ≡ 4
named_size n = length-append (optional_words n.body1) (optional_words n.body2) ∙ (λ i. optional_size n.body1 i + optional_size n.body2 i)

event_size_lem : (e : Event) → length (event_words e) ≡ event_size
unfolding event_words
event_size_lem (started n) = let e = named_size n in omega arith
event_size_lem (ended n) = let e = named_size n in omega arith

change_size_lem : (c : Change) → length (change_words c) ≡ change_size
unfolding change_words
change_size_lem (start id) = refl
change_size_lem (stop id a b) = refl
change_size_lem (count id a b d) = refl

-- ---- the pass, visit by visit
module _ (g es cs : List ℕ) where
  pub left_none : Left (begun g) es cs g es cs (record { events = 0; changes = 0 })
  unfolding put
  left_none = record { graph = refl; events = record { stored = refl; count = refl }; changes = record { stored = refl; count = refl } }

  pub left_next : (s : Passing) {h es' cs' h' es'' cs'' : List ℕ} (id : ℕ) {counts r : WrittenCounts} → Left s es cs h es' cs' counts
      → VisitDone h es' cs' id counts.events counts.changes h' es'' cs'' r → Left (visit_words s id) es cs h' es'' cs'' r
  unfolding visit_words
  left_next s {h} {es'} {cs'} {h'} {es''} {cs''} id {counts} {r} l d =
      let w = subst (λ (x : List ℕ). VisitDone x es' cs' id counts.events counts.changes h' es'' cs'' r) l.graph d in
      record {
        graph = w.graph;
        events = appended_next event_words event_size event_size_lem l.events w.events;
        changes = appended_next change_words change_size change_size_lem l.changes w.changes;
      }

  -- the loop: after k visits there is room for the next, and then for the rest
  module _ (ids : List ℕ) (ready : RowsReady g es cs ids) where
    abbrev pub after : ℕ → Passing
    after k = pass_words (begun g) (take k ids)

    pub visit_ready : (k : ℕ) {h es' cs' : List ℕ} {counts : WrittenCounts} → k < length ids → Left (after k) es cs h es' cs' counts
        → VisitReady h es' cs' (get_or ids k 0) counts.events counts.changes
    visit_ready k {h} {es'} {cs'} {counts} l a =
        let at = pass_at (begun g) ids ready.ready k l in
        let few = pass_events (begun g) (take k ids) in
        let less = pass_changes (begun g) (take k ids) in
        let n = length-take-le k ids (omega arith) in
        let e : length es' ≡ length es = ap (λ (w : List ℕ). length w) a.events.stored ∙ length_put es 0 (each event_words (after k).events) in
        let c : length cs' ≡ length cs = ap (λ (w : List ℕ). length w) a.changes.stored ∙ length_put cs 0 (each change_words (after k).changes) in
        record {
          checked = subst Checked (sym a.graph) at.0;
          standing = ap (λ (x : List ℕ). stands x (get_or ids k 0)) a.graph ∙ at.1;
          event_room = let m = a.events.count in let z = ready.event_room in omega arith;
          change_room = let m = a.changes.count in let z = ready.change_room in omega arith;
        }

    pub visit_left : (k : ℕ) {h es' cs' h' es'' cs'' : List ℕ} {counts r : WrittenCounts} → k < length ids → Left (after k) es cs h es' cs' counts
        → VisitDone h es' cs' (get_or ids k 0) counts.events counts.changes h' es'' cs'' r → Left (after (k + 1)) es cs h' es'' cs'' r
    visit_left k {h} {es'} {cs'} {h'} {es''} {cs''} {counts} {r} l a d =
        subst (λ (s : Passing). Left s es cs h' es'' cs'' r) (sym (pass_next (begun g) ids k l)) (left_next (after k) (get_or ids k 0) a d)
