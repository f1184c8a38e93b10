-- What an accepted addition passed. It leaves a graph of the right length and in range, and does to the words what the plain addition does to the graph. Assumes nothing.
use Prim.Native.Nat.{ℕ, suc, ◌+◌, ◌-◌, ◌≤◌, ◌<◌, min}
use Rattle.std.proofs.Common.{zero-add, add-zero, add-one, arith, sym, ap, ◌∙◌, true≢false, eqb-true, length-take, get_or-take, ext_get_or}
use Rattle.std.proofs.Math.Nat.{min-eq_left}
use Rattle.std.specs.Prelude.{◌≡◌, true, false, cond, not, ◌&&◌, List, [], ◌∷◌, ◌++◌, map, eqb, ltb, length, get_or, take}
use Rattle.std.proofs.Math.Path.{refl}
use Rattle.std.proofs.Math.Bool.{Bool}
use Rattle.std.proofs.lemmas.Bool.{eqb-false}
use Rattle.math.specs.Fit.{FitFloat}
use Rattle.rows.specs.Slots.{upto}
use Rattle.rules.specs.Graph.{new_pair, new_id, plain_add}
use Rattle.rules.specs.Numbers.{every}
use Rattle.rule_laws.specs.NumberLaws.{any_at}
use Rattle.rules.specs.Records.{Pair}
use Rattle.words.specs.Words.{word_at, float_word}
use Rattle.manifold_records.specs.Counts.{Counted}
use Rattle.manifold_records.specs.ListLaws.{map_upto_next, map_upto_same, get_d_map_upto, length_map_upto}
use Rattle.manifold_records.specs.Written.{zeros}
use Rattle.contact_records.specs.ApartLaws.{pair_same}
use Rattle.contact_records.proofs.BackLaws.{pair_held}
use Rattle.layout.specs.Contact.{contact_cache, contact_manifolds, contact_size}
use Rattle.layout.specs.Graph.{graph_length}
use Rattle.contact_records.specs.LengthLaws.{length_contact}
use Rattle.contact_records.specs.HeldLaws.{Holds}
use Rattle.contact_records.specs.NewLaws.{new_contact, new_fits}
use Rattle.contact_records.proofs.PartLaws.{index_held}
use Rattle.contact_records.specs.Recorded.{pair_at}
use Rattle.contact_records.specs.Written.{contact_words}
use Rattle.contact_range.specs.Recorded.{capacity_of, given_of, listed_count, free_count, listed_at, free_at, contact_at, graph_of}
use Rattle.contact_range.specs.Range.{is_mark, names_fit, marks_fit, manifolds_fit, contact_fits, same_colliders, right_length, in_range, stands, InRange}
use Rattle.contact_range.specs.RangeLaws.{first_of_lem, rest_of, counts, stands_at, listed_below, listed_fits_lem}
use Rattle.contact_graph.specs.IdLaws.{new_id_lem}
use Rattle.contact_graph.specs.Calls.{body_fits, body_word, request_fits, addition_of, pair_stands, add_refusal, new_id_of, added_words}
use Rattle.contact_range.specs.Checked.{Checked}
use Rattle.contact_graph.specs.EffectLaws.{AddEffect, add_effect}
use Rattle.contact_range.specs.FitsLaws.{fits_same}
use Rattle.contact_range.specs.Conditions.{RightLength}
use Rattle.contact_graph.specs.AddKeepsLaws.{NewId, lowest, freed, add_keeps}
use Rattle.contact_graph.specs.RemoveKeepsLaws.{colliders_swap}
use Rattle.contact_graph.specs.AddLaws.{request_words_lem, add_room}
use Rattle.contact_graph.specs.declared.call.Request.{Request}
use Rattle.rules.specs.Limits.{bodies, colliders}

-- ---- what an accepted addition passed
pub record Accepted (g : List ℕ) (a : Request) : Type 0 where
  pub right : right_length g ≡ true
  pub range : in_range g ≡ true
  pub request : request_fits a ≡ true
  pub differ : a.collider1 ≡ a.collider2 → ⊥
  pub fresh : pair_stands g a.collider1 a.collider2 ≡ false
  pub spare : listed_count g ≡ capacity_of g → ⊥

pub passed : (l r q s p f : Bool) → ◌≡◌ {A = ℕ} (cond (not l) 1 (cond (not (r && q)) 2 (cond s 3 (cond p 4 (cond f 5 0))))) 0
    → (l ≡ true) × (r ≡ true) × (q ≡ true) × (s ≡ false) × (p ≡ false) × (f ≡ false)
passed false r q s p f e = absurd (let z : ◌≡◌ {A = ℕ} 1 0 = e in omega arith)
passed true false q s p f e = absurd (let z : ◌≡◌ {A = ℕ} 2 0 = e in omega arith)
passed true true false s p f e = absurd (let z : ◌≡◌ {A = ℕ} 2 0 = e in omega arith)
passed true true true true p f e = absurd (let z : ◌≡◌ {A = ℕ} 3 0 = e in omega arith)
passed true true true false true f e = absurd (let z : ◌≡◌ {A = ℕ} 4 0 = e in omega arith)
passed true true true false false true e = absurd (let z : ◌≡◌ {A = ℕ} 5 0 = e in omega arith)
passed true true true false false false e = (refl, refl, refl, refl, refl, refl)

pub accepted : (g : List ℕ) (a : Request) → add_refusal g a ≡ 0 → Accepted g a
unfolding add_refusal
accepted g a e =
    let t = passed (right_length g) (in_range g) (request_fits a) (eqb a.collider1 a.collider2) (pair_stands g a.collider1 a.collider2) (eqb (listed_count g) (capacity_of g)) e in
    record {
      right = t.0;
      range = t.1;
      request = t.2;
      differ = eqb-false a.collider1 a.collider2 t.3;
      fresh = t.4;
      spare = eqb-false (listed_count g) (capacity_of g) t.5;
    }

pub accepted_room : {g : List ℕ} {a : Request} → Checked g → Accepted g a → listed_count g < capacity_of g
accepted_room c d = let n = counts c.range in let s = d.spare in omega arith

-- ---- the new record's words
abbrev pub request_words : ℕ → Request → List ℕ
request_words index a =
    a.collider1 ∷ a.collider2 ∷ a.has_body1 ∷ body_word a.has_body1 a.body1 ∷ a.has_body2 ∷ body_word a.has_body2 a.body2 ∷ index ∷ 0 ∷ a.contact_events
    ∷ 0 ∷ 0 ∷ 0 ∷ 0 ∷ 0 ∷ 0 ∷ 0 ∷ 0 ∷ a.modify_contacts ∷ 0 ∷ float_word a.speculative_distance ∷ []

pub new_words_lem : (index id : ℕ) (a : Request) → request_fits a ≡ true → contact_words index (new_pair id (addition_of a)) ≡ request_words index a ++ zeros (contact_size - contact_cache)
new_words_lem index id a e = new_contact index id (addition_of a) ∙ ap (λ (ws : List ℕ). ws ++ zeros (contact_size - contact_cache)) (sym (request_words_lem a index e refl refl refl))

-- they are in range
pub words_fit : (c1 c2 m1 b1 m2 b2 index ce mc d : ℕ) → ltb c1 colliders ≡ true → ltb c2 colliders ≡ true → body_fits m1 b1 ≡ true → body_fits m2 b2 ≡ true → is_mark ce ≡ true → is_mark mc ≡ true
    → contact_fits (c1 ∷ c2 ∷ m1 ∷ b1 ∷ m2 ∷ b2 ∷ index ∷ 0 ∷ ce ∷ 0 ∷ 0 ∷ 0 ∷ 0 ∷ 0 ∷ 0 ∷ 0 ∷ 0 ∷ mc ∷ 0 ∷ d ∷ zeros (contact_size - contact_cache)) 0 ≡ true
unfolding contact_fits names_fit marks_fit manifolds_fit every zeros
words_fit c1 c2 m1 b1 m2 b2 index ce mc d p q s t u v = rw (p, q, s, t, u, v)

-- what stands behind a mark of 0 is not asked
pub body_word_lem : (m n : ℕ) → body_fits m n ≡ true → body_fits m (body_word m n) ≡ true
body_word_lem m n e = go (eqb m 1) e
  where
    go : (b : Bool) → is_mark m && cond b (ltb n bodies) true ≡ true → is_mark m && cond b (ltb (cond b n 0) bodies) true ≡ true
    go true s = s
    go false s = s

pub request_fit : (index : ℕ) (a : Request) → request_fits a ≡ true → contact_fits (request_words index a ++ zeros (contact_size - contact_cache)) 0 ≡ true
unfolding request_fits
request_fit index a e =
    let c1 = ltb a.collider1 colliders in
    let c2 = ltb a.collider2 colliders in
    let b1 = body_fits a.has_body1 a.body1 in
    let b2 = body_fits a.has_body2 a.body2 in
    let ce = is_mark a.contact_events in
    let mc = is_mark a.modify_contacts in
    let named = first_of_lem (c1 && c2) ((b1 && b2) && (ce && mc)) e in
    let rest = rest_of (c1 && c2) ((b1 && b2) && (ce && mc)) e in
    let bodies = first_of_lem (b1 && b2) (ce && mc) rest in
    let marks = rest_of (b1 && b2) (ce && mc) rest in
    words_fit a.collider1 a.collider2 a.has_body1 (body_word a.has_body1 a.body1) a.has_body2 (body_word a.has_body2 a.body2) index a.contact_events a.modify_contacts
    (float_word a.speculative_distance) (first_of_lem c1 c2 named) (rest_of c1 c2 named) (body_word_lem a.has_body1 a.body1 (first_of_lem b1 b2 bodies)) (body_word_lem a.has_body2 a.body2 (rest_of b1 b2 bodies))
    (first_of_lem ce mc marks) (rest_of ce mc marks)

-- ---- the right length is kept where the length and the capacity are
pub right_kept : {g h : List ℕ} → RightLength g → length h ≡ length g → capacity_of h ≡ capacity_of g → RightLength h
right_kept r s c = record { least = omega (arith, r.least, c); most = omega (arith, r.most, c); size = s ∙ r.size ∙ ap graph_length (sym c) }

-- ---- the graph after the addition
abbrev pub new_words : List ℕ → Request → List ℕ
new_words g a = contact_words (listed_count g) (new_pair (new_id_of g) (addition_of a))

abbrev pub new_given : List ℕ → ℕ
new_given g = cond (eqb (free_count g) 0) (given_of g + 1) (given_of g)

pub new_id_case : (g : List ℕ) → NewId g (new_id_of g) (new_given g) (free_count g - 1)
unfolding new_id_of
new_id_case g = go (eqb (free_count g) 0) refl
  where
    go : (b : Bool) → eqb (free_count g) 0 ≡ b → NewId g (cond b (given_of g) (free_at g (free_count g - 1))) (cond b (given_of g + 1) (given_of g)) (free_count g - 1)
    go true e = let z = eqb-true (free_count g) 0 e in lowest z refl refl (omega arith)
    go false e = let z = eqb-false (free_count g) 0 e in freed (omega arith) refl refl refl

pub added_effect : {g : List ℕ} (a : Request) → Checked g → listed_count g < capacity_of g → AddEffect g (added_words g a) (new_words g a) (new_id_of g) (new_given g) (free_count g - 1)
unfolding added_words
added_effect {g} a c room =
    add_effect g (new_words g a) (new_id_of g) (new_given g) (free_count g - 1) c.right (add_room c room).id room (length_contact (listed_count g) (new_pair (new_id_of g) (addition_of a)))

module _ {g : List ℕ} (a : Request) (c : Checked g) (ok : Accepted g a) where
  abbrev pub after : List ℕ
  after = added_words g a

  abbrev pub room : listed_count g < capacity_of g
  room = accepted_room c ok

  pub effect : AddEffect g after (new_words g a) (new_id_of g) (new_given g) (free_count g - 1)
  effect = added_effect a c room

  pub alone : stands g (new_id_of g) ≡ false
  unfolding new_id_of
  alone = (new_id_lem c.range room).1

  pub own_words : Holds after (contact_at after (new_id_of g)) (new_words g a)
  own_words = record { each = λ i l. effect.own i (omega (arith, length_contact (listed_count g) (new_pair (new_id_of g) (addition_of a)))) }

  pub own_word : (o : ℕ) → o < contact_size → word_at after (contact_at after (new_id_of g) + o) ≡ word_at (request_words (listed_count g) a ++ zeros (contact_size - contact_cache)) o
  own_word o l = effect.own o l ∙ ap (λ (ws : List ℕ). word_at ws o) (new_words_lem (listed_count g) (new_id_of g) a ok.request)

  pub record_fits : contact_fits after (contact_at after (new_id_of g)) ≡ true
  record_fits =
      let ws = request_words (listed_count g) a ++ zeros (contact_size - contact_cache) in
      fits_same ws 0 after (contact_at after (new_id_of g)) (λ o l _. own_word o l ∙ ap (word_at ws) (sym (zero-add o))) ∙ request_fit (listed_count g) a ok.request

  -- the record of a listed contact is as it was
  pub old_record : (p : ℕ) → p < listed_count g → (o : ℕ) → o < contact_size → word_at after (contact_at after (listed_at after p) + o) ≡ word_at g (contact_at g (listed_at g p) + o)
  old_record p l o s =
      ap (λ (i : ℕ). word_at after (contact_at after i + o)) (effect.list p l)
      ∙ effect.others (listed_at g p) o (listed_below c.range p l) (λ q. true≢false (sym (stands_at g p l) ∙ ap (stands g) q ∙ alone)) s

  pub old_first : (p : ℕ) → p < listed_count g → word_at after (contact_at after (listed_at after p)) ≡ word_at g (contact_at g (listed_at g p))
  old_first p l =
      ap (word_at after) (sym (add-zero (contact_at after (listed_at after p)))) ∙ old_record p l 0 (omega arith) ∙ ap (word_at g) (add-zero (contact_at g (listed_at g p)))

  pub not_standing : (p : ℕ) → p < listed_count g → same_colliders a.collider1 a.collider2 (word_at g (contact_at g (listed_at g p))) (word_at g (contact_at g (listed_at g p) + 1)) ≡ false
  unfolding pair_stands
  not_standing p l = go (test p) refl
    where
      test : ℕ → Bool
      test q = same_colliders a.collider1 a.collider2 (word_at g (contact_at g (listed_at g q))) (word_at g (contact_at g (listed_at g q) + 1))

      go : (b : Bool) → test p ≡ b → b ≡ false
      go false e = refl
      go true e = absurd (true≢false (sym (any_at test (listed_count g) p l e) ∙ ok.fresh))

  pub fresh : (p : ℕ) → p < listed_count g
      → same_colliders (word_at after (contact_at after (listed_at after p))) (word_at after (contact_at after (listed_at after p) + 1)) (word_at after (contact_at after (new_id_of g))) (word_at after (contact_at after (new_id_of g) + 1)) ≡ false
  fresh p l =
      let e1 : word_at after (contact_at after (new_id_of g)) ≡ a.collider1 = ap (word_at after) (sym (add-zero (contact_at after (new_id_of g)))) ∙ own_word 0 (omega arith) in
      let e2 : word_at after (contact_at after (new_id_of g) + 1) ≡ a.collider2 = own_word 1 (omega arith) in
      (λ i. same_colliders (old_first p l i) (old_record p l 1 (omega arith) i) (e1 i) (e2 i))
      ∙ colliders_swap (word_at g (contact_at g (listed_at g p))) (word_at g (contact_at g (listed_at g p) + 1)) a.collider1 a.collider2 ∙ not_standing p l

  pub accepted_in_range : Checked after
  accepted_in_range =
      record {
        right = right_kept c.right effect.size effect.capacity;
        range =
            add_keeps c.range effect (new_id_case g) (add_room c room).id room alone record_fits fresh
            (index_held (contact_at after (new_id_of g)) (listed_count g) (new_pair (new_id_of g) (addition_of a)) own_words);
      }

pub added_in_range : {g : List ℕ} (a : Request) → Checked g → add_refusal g a ≡ 0 → Checked (added_words g a)
added_in_range {g} a c e = accepted_in_range a c (accepted g a e)

-- ---- the plain graph
-- the first of a list by index
pub take_upto {ℓ} : {A : Type ℓ} (f : ℕ → A) (m n : ℕ) → m ≤ n → take m (map f (upto n)) ≡ map f (upto m)
take_upto f m n h =
    let l : length (take m (map f (upto n))) ≡ m = length-take m (map f (upto n)) ∙ ap (min m) (length_map_upto f n) ∙ min-eq_left h in
    ext_get_or (f 0) (take m (map f (upto n))) (map f (upto m)) (l ∙ sym (length_map_upto f m))
    (λ i k. let b : i < m = omega arith in
    get_or-take m (map f (upto n)) i (f 0) b ∙ get_d_map_upto f n i (f 0) (omega arith) ∙ sym (get_d_map_upto f m i (f 0) b))

-- the new id is that of the plain graph
pub added_id : (g : List ℕ) → new_id_of g ≡ new_id (graph_of g)
unfolding new_id_of new_id graph_of
added_id g =
    go (eqb (free_count g) 0) refl
    ∙ ap (λ (m : ℕ). cond (eqb m 0) (given_of g) (get_or (map (free_at g) (upto (free_count g))) (m - 1) 0)) (sym (length_map_upto (free_at g) (free_count g)))
  where
    go : (b : Bool) → eqb (free_count g) 0 ≡ b
        → cond b (given_of g) (free_at g (free_count g - 1)) ≡ cond b (given_of g) (get_or (map (free_at g) (upto (free_count g))) (free_count g - 1) 0)
    go true e = refl
    go false e = let z = eqb-false (free_count g) 0 e in sym (get_d_map_upto (free_at g) (free_count g) (free_count g - 1) 0 (omega arith))

-- the contact at a place of the list
abbrev pub listed_pair : List ℕ → ℕ → Pair
listed_pair g p = pair_at g (contact_at g (listed_at g p)) (listed_at g p)

pub listed_counted : {g : List ℕ} → InRange g → (p : ℕ) → p < listed_count g → Counted g (contact_at g (listed_at g p) + contact_manifolds)
listed_counted r p h = let f = listed_fits_lem r p h in record { manifolds = f.manifolds; points = f.points }

module _ {g : List ℕ} (a : Request) (c : Checked g) (ok : Accepted g a) where
  pub old_pair : (p : ℕ) → p < listed_count g → listed_pair (added_words g a) p ≡ listed_pair g p
  old_pair p l =
      pair_same (listed_at (added_words g a) p) (listed_counted c.range p l) (record { each = old_record a c ok p l })
      ∙ ap (pair_at g (contact_at g (listed_at g p))) ((added_effect a c (accepted_room c ok)).list p l)

  pub last_pair : FitFloat a.speculative_distance → listed_pair (added_words g a) (listed_count g) ≡ new_pair (new_id_of g) (addition_of a)
  last_pair f =
      let h = added_words g a in
      ap (λ (i : ℕ). pair_at h (contact_at h i) i) (added_effect a c (accepted_room c ok)).last
      ∙ pair_held (listed_count g) (new_pair (new_id_of g) (addition_of a)) (new_fits (new_id_of g) (addition_of a) f) (own_words a c ok)

  pub free_kept : map (free_at (added_words g a)) (upto (free_count (added_words g a))) ≡ take (length (map (free_at g) (upto (free_count g))) - 1) (map (free_at g) (upto (free_count g)))
  free_kept =
      let e = added_effect a c (accepted_room c ok) in
      let n = counts c.range in
      ap (λ (m : ℕ). map (free_at (added_words g a)) (upto m)) e.freed
      ∙ map_upto_same (free_at (added_words g a)) (free_at g) (free_count g - 1) (λ k l. e.free k (omega arith))
      ∙ sym (take_upto (free_at g) (free_count g - 1) (free_count g) (omega arith))
      ∙ ap (λ (m : ℕ). take (m - 1) (map (free_at g) (upto (free_count g)))) (sym (length_map_upto (free_at g) (free_count g)))

  pub given_counted : given_of (added_words g a) ≡ cond (eqb (length (map (free_at g) (upto (free_count g)))) 0) (suc (given_of g)) (given_of g)
  given_counted =
      (added_effect a c (accepted_room c ok)).given ∙ ap (λ (m : ℕ). cond (eqb (free_count g) 0) m (given_of g)) (add-one (given_of g))
      ∙ ap (λ (m : ℕ). cond (eqb m 0) (suc (given_of g)) (given_of g)) (sym (length_map_upto (free_at g) (free_count g)))

  pub pairs_after : FitFloat a.speculative_distance
      → map (listed_pair (added_words g a)) (upto (listed_count (added_words g a))) ≡ map (listed_pair g) (upto (listed_count g)) ++ new_pair (new_id (graph_of g)) (addition_of a) ∷ []
  pairs_after f =
      ap (λ (m : ℕ). map (listed_pair (added_words g a)) (upto m)) (added_effect a c (accepted_room c ok)).listed
      ∙ map_upto_next (listed_pair (added_words g a)) (listed_count g)
      ∙ (λ i. map_upto_same (listed_pair (added_words g a)) (listed_pair g) (listed_count g) old_pair i ++ (last_pair f ∙ ap (λ (k : ℕ). new_pair k (addition_of a)) (added_id g)) i ∷ [])

  pub accepted_graph : FitFloat a.speculative_distance → graph_of (added_words g a) ≡ plain_add (addition_of a) (graph_of g)
  unfolding graph_of plain_add
  accepted_graph f = λ i. record { capacity = (added_effect a c (accepted_room c ok)).capacity i; given = given_counted i; free = free_kept i; pairs = pairs_after f i }

pub added_graph : {g : List ℕ} (a : Request) → Checked g → add_refusal g a ≡ 0 → FitFloat a.speculative_distance → graph_of (added_words g a) ≡ plain_add (addition_of a) (graph_of g)
added_graph {g} a c e f = accepted_graph a c (accepted g a e) f
