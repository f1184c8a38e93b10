-- The words of an addition, and what an addition's tests show. Assumes nothing.
use Rattle.std.specs.Prelude.{ℕ, ◌+◌, ◌-◌, ◌≤◌, ◌<◌, ◌≡◌, refl, Bool, true, false, cond, ◌&&◌, List, [], ◌∷◌, ◌++◌, eqb, ltb, length, Err, Ok, None, Some}
use Rattle.std.proofs.Common.{arith, sym, ap, ◌∙◌, inr}
use borrow.Author.Tests.{ltb-true, eqb-true, eqb-false, eq-eqb, ne_eqb}
use Rattle.rows.specs.Rows.{put}
use Rattle.rows.specs.Laws.{put_append, put_put, put_comm, put_next}
use Rattle.words.specs.Words.{float_word, mark_word}
use Rattle.contact_types.specs.declared.contact_id.ContactId.{ContactId}
use Rattle.contact_types.specs.declared.refusal.Refusal.TheVariants.{WrongLength, OutOfRange, SameCollider, PairExists, GraphFull}
use Rattle.manifold_records.specs.Written.{zeros}
use Rattle.contact_records.specs.NewLaws.{new_contact, zeros_add}
use Rattle.contact_records.specs.Written.{optional_words, new_contact_words}
use Rattle.contact_graph.specs.Calls.{body_fits, body_word, optional, request_fits, addition_of, pair_stands, add_refusal, new_id_of, added_words}
use Rattle.contact_graph.specs.Adding.{AddedNew}
use Rattle.contact_range.specs.Checked.{Checked}
use Rattle.contact_graph.specs.IdLaws.{new_id_lem}
use Rattle.contact_graph.specs.Promises.{Added, added}
use Rattle.contact_range.specs.RangeLaws.{counts, first_of_lem, rest_of}
use Rattle.contact_range.specs.Recorded.{capacity_of, given_of, listed_count, free_count, contact_at}
use Rattle.contact_range.specs.Range.{is_mark, right_length, in_range}
use Rattle.manifold_records.specs.ListLaws.{length_zeros}
use Rattle.contact_graph.specs.declared.call.Request.{Request}
use Rattle.rules.specs.Limits.{bodies, colliders, most_contacts}
use Rattle.layout.specs.Contact.{contact_cache, contact_size}
use Rattle.layout.specs.Graph.{graph_list}

-- a mark below 2 is 1 where it is read as set, and 0 where it is not
mark_word_lem : (w : ℕ) → w < 2 → mark_word (eqb w 1) ≡ w
mark_word_lem w h = go (eqb w 1) refl
  where
    go : (b : Bool) → eqb w 1 ≡ b → cond b 1 0 ≡ w
    go true e = sym (eqb-true w 1 e)
    go false e = let n = eqb-false w 1 e in omega (arith, n)

optional_words_lem : (m n : ℕ) → m < 2 → optional_words (optional m n) ≡ m ∷ body_word m n ∷ []
unfolding optional_words
optional_words_lem m n h = go (eqb m 1) refl
  where
    go : (b : Bool) → eqb m 1 ≡ b → optional_words (cond b (Some n) None) ≡ m ∷ cond b n 0 ∷ []
    go true e = ap (λ (k : ℕ). k ∷ n ∷ []) (sym (eqb-true m 1 e))
    go false e = ap (λ (k : ℕ). k ∷ 0 ∷ []) (let d = eqb-false m 1 e in let z : 0 ≡ m = omega (arith, d) in z)

pub record Fitted (a : Request) : Type 0 where
  pub body1 : a.has_body1 < 2
  pub body2 : a.has_body2 < 2
  pub events : a.contact_events < 2
  pub modify : a.modify_contacts < 2

pub fitted : (a : Request) → request_fits a ≡ true → Fitted a
unfolding request_fits
fitted a e =
    let names = ltb a.collider1 colliders && ltb a.collider2 colliders in
    let b1 = body_fits a.has_body1 a.body1 in
    let b2 = body_fits a.has_body2 a.body2 in
    let ce = is_mark a.contact_events in
    let mc = is_mark a.modify_contacts in
    let rest = rest_of names ((b1 && b2) && (ce && mc)) e in
    let marks = rest_of (b1 && b2) (ce && mc) rest in
    let both = first_of_lem (b1 && b2) (ce && mc) rest in
    record {
      body1 = body_mark a.has_body1 a.body1 (first_of_lem b1 b2 both);
      body2 = body_mark a.has_body2 a.body2 (rest_of b1 b2 both);
      events = ltb-true a.contact_events 2 (first_of_lem ce mc marks);
      modify = ltb-true a.modify_contacts 2 (rest_of ce mc marks);
    }
  where
    body_mark : (m n : ℕ) → body_fits m n ≡ true → m < 2
    body_mark m n q = ltb-true m 2 (first_of_lem (is_mark m) (cond (eqb m 1) (ltb n bodies) true) q)

-- the words that the code writes
pub request_words_lem : (a : Request) (index : ℕ) {w1 w2 d : ℕ} → request_fits a ≡ true → w1 ≡ body_word a.has_body1 a.body1 → w2 ≡ body_word a.has_body2 a.body2 → d ≡ float_word a.speculative_distance
    → a.collider1 ∷ a.collider2 ∷ a.has_body1 ∷ w1 ∷ a.has_body2 ∷ w2 ∷ index ∷ 0 ∷ a.contact_events ∷ 0 ∷ 0 ∷ 0 ∷ 0 ∷ 0 ∷ 0 ∷ 0 ∷ 0 ∷ a.modify_contacts ∷ 0 ∷ d ∷ []
    ≡ new_contact_words index (addition_of a)
unfolding new_contact_words
request_words_lem a index {w1} {w2} {d} e p q s =
    let f = fitted a e in
    let b1 = optional_words_lem a.has_body1 a.body1 f.body1 in
    let b2 = optional_words_lem a.has_body2 a.body2 f.body2 in
    let ce = mark_word_lem a.contact_events f.events in
    let mc = mark_word_lem a.modify_contacts f.modify in
    sym
    (ap (λ (l : List ℕ). a.collider1 ∷ a.collider2 ∷ l ++ optional_words (optional a.has_body2 a.body2) ++ (index ∷ 0 ∷ mark_word (eqb a.contact_events 1) ∷ 0 ∷ 0 ∷ 0 ∷ 0 ∷ 0 ∷ 0 ∷ 0 ∷ 0 ∷ mark_word (eqb a.modify_contacts 1) ∷ 0 ∷ float_word a.speculative_distance ∷ [])) (b1 ∙ ap (λ (w : ℕ). a.has_body1 ∷ w ∷ []) (sym p))
    ∙ ap (λ (l : List ℕ). a.collider1 ∷ a.collider2 ∷ a.has_body1 ∷ w1 ∷ l ++ (index ∷ 0 ∷ mark_word (eqb a.contact_events 1) ∷ 0 ∷ 0 ∷ 0 ∷ 0 ∷ 0 ∷ 0 ∷ 0 ∷ 0 ∷ mark_word (eqb a.modify_contacts 1) ∷ 0 ∷ float_word a.speculative_distance ∷ [])) (b2 ∙ ap (λ (w : ℕ). a.has_body2 ∷ w ∷ []) (sym q))
    ∙ (λ i. a.collider1 ∷ a.collider2 ∷ a.has_body1 ∷ w1 ∷ a.has_body2 ∷ w2 ∷ index ∷ 0 ∷ ce i ∷ 0 ∷ 0 ∷ 0 ∷ 0 ∷ 0 ∷ 0 ∷ 0 ∷ 0 ∷ mc i ∷ 0 ∷ sym s i ∷ []))

-- twenty words over a blank record
pub stored_over : (g : List ℕ) (at : ℕ) (head : List ℕ) {h k : List ℕ} → length head ≡ contact_cache → h ≡ put g at (zeros contact_size) → k ≡ put h at head → k ≡ put g at (head ++ zeros (contact_size - contact_cache))
stored_over g at head {h} {k} l p q =
    q ∙ ap (λ (x : List ℕ). put x at head) (p ∙ ap (put g at) (sym (zeros_add contact_cache (contact_size - contact_cache))) ∙ put_append g at (zeros contact_cache) (zeros (contact_size - contact_cache)))
    ∙ put_comm (put g at (zeros contact_cache)) (at + length (zeros contact_cache)) (zeros (contact_size - contact_cache)) at head (inr (omega (arith, length_zeros contact_cache, l)))
    ∙ ap (λ (x : List ℕ). put x (at + length (zeros contact_cache)) (zeros (contact_size - contact_cache))) (put_put g at (zeros contact_cache) head (length_zeros contact_cache ∙ sym l))
    ∙ put_next g at head (zeros (contact_size - contact_cache)) (length (zeros contact_cache)) (l ∙ sym (length_zeros contact_cache))

-- ---- the stores of an addition are those of `added_words`
pub add_stored : (g : List ℕ) (a : Request) {w1 w2 w3 : List ℕ} {id at listed given freed m l n : ℕ} → id ≡ new_id_of g → at ≡ contact_at g id → listed ≡ listed_count g → given ≡ given_of g → freed ≡ free_count g
    → w1 ≡ put g at (new_contact_words listed (addition_of a) ++ zeros (contact_size - contact_cache)) → w2 ≡ put w1 (graph_list + listed) (id ∷ []) → m ≡ cond (eqb freed 0) (given + 1) given → l ≡ listed + 1 → n ≡ freed - 1
    → w3 ≡ put w2 1 (m ∷ l ∷ n ∷ []) → w3 ≡ added_words g a
unfolding added_words
add_stored g a p q s t u x y m l n z =
    z ∙ rw (m, l, n, y, x, s, t, u, q, p, new_contact (listed_count g) (new_id_of g) (addition_of a))

-- an addition has room
pub record AddRoom (g : List ℕ) : Type 0 where
  pub id : new_id_of g < capacity_of g
  pub listed : graph_list + listed_count g < length g
  pub given : given_of g ≤ most_contacts
  pub few : listed_count g < most_contacts

pub add_room : {g : List ℕ} → Checked g → listed_count g < capacity_of g → AddRoom g
unfolding new_id_of
add_room {g} c h =
    let n = counts c.range in
    let r = c.right in
    record {
      id = (new_id_lem c.range h).0;
      listed = omega (arith, r.size);
      given = omega (arith, r.most);
      few = omega (arith, r.most);
    }

-- ---- the refusals of an addition, in their order
module _ (g : List ℕ) (a : Request) where
  add_length : right_length g ≡ false → add_refusal g a ≡ 1
  unfolding add_refusal
  add_length p = rw p

  add_range : right_length g ≡ true → in_range g ≡ false → add_refusal g a ≡ 2
  unfolding add_refusal
  add_range p q = rw (p, q)

  add_request : right_length g ≡ true → in_range g ≡ true → request_fits a ≡ false → add_refusal g a ≡ 2
  unfolding add_refusal
  add_request p q s = rw (p, q, s)

  add_same : right_length g ≡ true → in_range g ≡ true → request_fits a ≡ true → a.collider1 ≡ a.collider2 → add_refusal g a ≡ 3
  unfolding add_refusal
  add_same p q s t = rw (p, q, s, eq-eqb a.collider1 a.collider2 t)

  add_stands : right_length g ≡ true → in_range g ≡ true → request_fits a ≡ true → (a.collider1 ≡ a.collider2 → ⊥) → pair_stands g a.collider1 a.collider2 ≡ true → add_refusal g a ≡ 4
  unfolding add_refusal
  add_stands p q s t u = rw (p, q, s, ne_eqb a.collider1 a.collider2 t, u)

  add_full : right_length g ≡ true → in_range g ≡ true → request_fits a ≡ true → (a.collider1 ≡ a.collider2 → ⊥) → pair_stands g a.collider1 a.collider2 ≡ false → listed_count g ≡ capacity_of g → add_refusal g a ≡ 5
  unfolding add_refusal
  add_full p q s t u v = rw (p, q, s, ne_eqb a.collider1 a.collider2 t, u, eq-eqb (listed_count g) (capacity_of g) v)

  add_accepted : right_length g ≡ true → in_range g ≡ true → request_fits a ≡ true → (a.collider1 ≡ a.collider2 → ⊥) → pair_stands g a.collider1 a.collider2 ≡ false → (listed_count g ≡ capacity_of g → ⊥) → add_refusal g a ≡ 0
  unfolding add_refusal
  add_accepted p q s t u v = rw (p, q, s, ne_eqb a.collider1 a.collider2 t, u, ne_eqb (listed_count g) (capacity_of g) v)

  -- so the promise is kept
  pub refused_length : right_length g ≡ false → Added g a g (Err WrongLength)
  refused_length p = let e = add_length p in record { answer = rw e; graph = rw e }

  pub refused_range : right_length g ≡ true → in_range g ≡ false → Added g a g (Err OutOfRange)
  refused_range p q = let e = add_range p q in record { answer = rw e; graph = rw e }

  pub refused_request : right_length g ≡ true → in_range g ≡ true → request_fits a ≡ false → Added g a g (Err OutOfRange)
  refused_request p q s = let e = add_request p q s in record { answer = rw e; graph = rw e }

  pub refused_same : right_length g ≡ true → in_range g ≡ true → request_fits a ≡ true → a.collider1 ≡ a.collider2 → Added g a g (Err SameCollider)
  refused_same p q s t = let e = add_same p q s t in record { answer = rw e; graph = rw e }

  pub refused_stands : right_length g ≡ true → in_range g ≡ true → request_fits a ≡ true → (a.collider1 ≡ a.collider2 → ⊥) → pair_stands g a.collider1 a.collider2 ≡ true → Added g a g (Err PairExists)
  refused_stands p q s t u = let e = add_stands p q s t u in record { answer = rw e; graph = rw e }

  pub refused_full : right_length g ≡ true → in_range g ≡ true → request_fits a ≡ true → (a.collider1 ≡ a.collider2 → ⊥) → pair_stands g a.collider1 a.collider2 ≡ false → listed_count g ≡ capacity_of g → Added g a g (Err GraphFull)
  refused_full p q s t u v = let e = add_full p q s t u v in record { answer = rw e; graph = rw e }

  pub add_kept : {h : List ℕ} {r : ContactId} → right_length g ≡ true → in_range g ≡ true → request_fits a ≡ true → (a.collider1 ≡ a.collider2 → ⊥) → pair_stands g a.collider1 a.collider2 ≡ false → (listed_count g ≡ capacity_of g → ⊥)
      → AddedNew g a h r → Added g a h (Ok r)
  add_kept p q s t u v f = let e = add_accepted p q s t u v in record { answer = ap added f.id ∙ rw e; graph = f.graph ∙ rw e }
