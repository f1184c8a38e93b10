-- What the updates of a list of contacts leave in the lent rows: one contact more, two lists one after another, and that the order does not matter. Assumes nothing.
use Prim.Native.Nat.{ℕ, zero, suc, ◌+◌, ◌-◌, ◌≤◌, ◌<◌, suc-le-suc}
use Rattle.std.proofs.Common.{zero-lt-suc, not-suc-le-zero, le_of_suc-le-suc, eq-or-lt_of_le, zero-add, add-suc, subst, ◌∙◌, inl, inr, true≢false, eq-eqb, ne_eqb, eqb-true, get_or-set_same, get_or-set_other}
use Rattle.std.proofs.Math.Nat.{add-zero}
use native.Mathlib.Omega.{arith}
use Rattle.std.specs.Prelude.{◌≡◌, ◌≢◌, Bool, ◌||◌, eqb, get_or}
use Rattle.std.proofs.Math.Path.{refl, sym, ap}
use Rattle.std.proofs.Math.Bool.{true, false, cond, or-true, or_assoc}
use mathlib.Core.List.{List, [], ◌∷◌, ◌++◌, map, map-append, append_assoc, append-nil}
use Rattle.std.proofs.lemmas.Bool.{eqb-false}
use Rattle.std.proofs.Math.ListN.{length}
use Rattle.std.proofs.Math.Seq.{ext_get_or}
use Rattle.rows.specs.Rows.{put}
use Rattle.rows.specs.Laws.{length_put, put_one}
use Rattle.rows.specs.Slots.{upto, Listed, Distinct, AllBelow, SameMembers}
use Rattle.rows.specs.SlotLaws.{listed_tail}
use Rattle.rules.specs.Update.{is_recycled, Updated}
use Rattle.words.specs.Words.{float_word}
use Rattle.data_structures.specs.BitVec.{marked}
use Rattle.data_structures.specs.BitVecLaws.{length_marked}
use Rattle.manifold_records.specs.ListLaws.{get_d_map_upto, length_map_upto}
use Rattle.contact_range.specs.Range.{stands}
use Rattle.contact_range.specs.Recorded.{capacity_of}
use Rattle.shares.specs.CountingLaws.{sum}
use Rattle.shares.specs.Shares.{workers_of, count_of, start_of, total_of, entry_at}
use Rattle.update_pass.specs.Shared.{bits_after, distances_after, distances_of, recycled_of, first_of}

-- the numbers from a on, behind those below it
pub upto_split {ℓ} : {A : Type ℓ} (f : ℕ → A) (a b : ℕ) → map f (upto (a + b)) ≡ map f (upto a) ++ map (λ j. f (a + j)) (upto b)
unfolding upto
upto_split {A} f a zero = ap (λ (n : ℕ). map f (upto n)) (add-zero a) ∙ sym (append-nil (map f (upto a)))
upto_split {A} f a (suc b) =
    ap (λ (n : ℕ). map f (upto n)) (add-suc a b) ∙ map-append f (upto (a + b)) ((a + b) ∷ []) ∙ ap (λ (l : List A). l ++ f (a + b) ∷ []) (upto_split f a b)
    ∙ append_assoc (map f (upto a)) (map (λ j. f (a + j)) (upto b)) (f (a + b) ∷ [])
    ∙ ap (λ (l : List A). map f (upto a) ++ l) (sym (map-append (λ j. f (a + j)) (upto b) (b ∷ [])))

start_grows : (xs : List ℕ) (w d : ℕ) → start_of xs w ≤ start_of xs (w + d)
unfolding start_of
start_grows xs w zero = let e = ap (start_of xs) (add-zero w) in omega arith
start_grows xs w (suc d) = let e = ap (start_of xs) (add-suc w d) in let l = start_grows xs w d in omega arith

-- no given worker's contacts begin past the last entry
pub start_within : (xs : List ℕ) (w : ℕ) → w ≤ workers_of xs → start_of xs w ≤ total_of xs
start_within xs w l = subst (λ (n : ℕ). start_of xs w ≤ start_of xs n) (let z : w + (workers_of xs - w) ≡ workers_of xs = omega arith in z) (start_grows xs w (workers_of xs - w))

pub share_room : (xs : List ℕ) (w : ℕ) → w < workers_of xs → start_of xs w + count_of xs w ≤ total_of xs
unfolding start_of
share_room xs w l = start_within xs (suc w) l

-- the entries of the workers up to w are those before it, and its own
pub entries_split : (xs : List ℕ) (w : ℕ) → map (entry_at xs) (upto (start_of xs (suc w))) ≡ map (entry_at xs) (upto (start_of xs w)) ++ first_of xs w (count_of xs w)
unfolding start_of
entries_split xs w = upto_split (entry_at xs) (start_of xs w) (count_of xs w)

module _ (u : ℕ → Updated) where
  -- ---- one after another
  pub bits_append : (bits a b : List ℕ) → bits_after u bits (a ++ b) ≡ bits_after u (bits_after u bits a) b
  unfolding bits_after
  bits_append bits [] b = refl
  bits_append bits (id ∷ a) b = bits_append (cond (u id).bit (marked bits id) bits) a b

  pub distances_append : (ds a b : List ℕ) → distances_after u ds (a ++ b) ≡ distances_after u (distances_after u ds a) b
  unfolding distances_after
  distances_append ds [] b = refl
  distances_append ds (id ∷ a) b = distances_append (put ds id (float_word (u id).max_contact_distance ∷ [])) a b

  pub recycled_append : (a b : List ℕ) → recycled_of u (a ++ b) ≡ recycled_of u a + recycled_of u b
  unfolding recycled_of
  recycled_append [] b = sym (zero-add (recycled_of u b))
  recycled_append (id ∷ a) b = let e = recycled_append a b in omega arith

  -- ---- one contact more
  pub bits_next : (bits ids : List ℕ) (id : ℕ) → bits_after u bits (ids ++ id ∷ []) ≡ cond (u id).bit (marked (bits_after u bits ids) id) (bits_after u bits ids)
  unfolding bits_after
  bits_next bits ids id = bits_append bits ids (id ∷ [])

  pub distances_next : (ds ids : List ℕ) (id : ℕ) → distances_after u ds (ids ++ id ∷ []) ≡ put (distances_after u ds ids) id (float_word (u id).max_contact_distance ∷ [])
  unfolding distances_after
  distances_next ds ids id = distances_append ds ids (id ∷ [])

  pub recycled_next : (ids : List ℕ) (id : ℕ) → recycled_of u (ids ++ id ∷ []) ≡ recycled_of u ids + cond (is_recycled (u id).way) 1 0
  unfolding recycled_of
  recycled_next ids id = recycled_append ids (id ∷ []) ∙ ap (λ (n : ℕ). recycled_of u ids + n) (add-zero (cond (is_recycled (u id).way) 1 0))

  -- ---- lengths and sizes
  pub length_bit : (bits : List ℕ) (id : ℕ) → length (cond (u id).bit (marked bits id) bits) ≡ length bits
  length_bit bits id = go (u id).bit
    where
      go : (b : Bool) → length (cond b (marked bits id) bits) ≡ length bits
      go true = length_marked bits id
      go false = refl

  pub length_bits_after : (bits ids : List ℕ) → length (bits_after u bits ids) ≡ length bits
  unfolding bits_after
  length_bits_after bits [] = refl
  length_bits_after bits (id ∷ ids) = length_bits_after (cond (u id).bit (marked bits id) bits) ids ∙ length_bit bits id

  pub length_distances_after : (ds ids : List ℕ) → length (distances_after u ds ids) ≡ length ds
  unfolding distances_after
  length_distances_after ds [] = refl
  length_distances_after ds (id ∷ ids) =
      let ws = float_word (u id).max_contact_distance ∷ [] in
      length_distances_after (put ds id ws) ids ∙ length_put ds id ws

  pub recycled_most : (ids : List ℕ) → recycled_of u ids ≤ length ids
  unfolding recycled_of
  recycled_most [] = omega arith
  recycled_most (id ∷ ids) = go (is_recycled (u id).way) (recycled_most ids)
    where
      go : (b : Bool) → recycled_of u ids ≤ length ids → cond b 1 0 + recycled_of u ids ≤ suc (length ids)
      go true l = omega arith
      go false l = omega arith

-- ---- a list of numbers, as a test of its members
unfoldable pub listed_in : List ℕ → ℕ → Bool
listed_in [] j = false
listed_in (id ∷ ids) j = eqb id j || listed_in ids j

pub listed_in_lem : (ids : List ℕ) (j : ℕ) → listed_in ids j ≡ true → Listed ids j
unfolding listed_in
listed_in_lem [] j e = absurd (true≢false (sym e))
listed_in_lem (id ∷ ids) j e = go (eqb id j) refl e (listed_in_lem ids j)
  where
    go : (b : Bool) → eqb id j ≡ b → b || listed_in ids j ≡ true → (listed_in ids j ≡ true → Listed ids j) → Listed (id ∷ ids) j
    go true t e r = (zero, zero-lt-suc (length ids), eqb-true id j t)
    go false t e r = listed_tail id ids (r e)

pub in_listed : (ids : List ℕ) (j : ℕ) → Listed ids j → listed_in ids j ≡ true
unfolding listed_in
in_listed [] j m = absurd (not-suc-le-zero m.1)
in_listed (id ∷ ids) j (zero, h, e) = ap (λ (b : Bool). b || listed_in ids j) (eq-eqb id j e)
in_listed (id ∷ ids) j (suc k, h, e) = ap (λ (b : Bool). eqb id j || b) (in_listed ids j (k, le_of_suc-le-suc h, e)) ∙ or-true (eqb id j)

pub not_listed_in : (ids : List ℕ) (j : ℕ) → (Listed ids j → ⊥) → listed_in ids j ≡ false
not_listed_in ids j n = go (listed_in ids j) refl
  where
    go : (b : Bool) → listed_in ids j ≡ b → b ≡ false
    go true e = absurd (n (listed_in_lem ids j e))
    go false e = refl

pub listed_in_append : (a b : List ℕ) (j : ℕ) → listed_in (a ++ b) j ≡ (listed_in a j || listed_in b j)
unfolding listed_in
listed_in_append [] b j = refl
listed_in_append (id ∷ a) b j = ap (λ (t : Bool). eqb id j || t) (listed_in_append a b j) ∙ sym (or_assoc (eqb id j) (listed_in a j) (listed_in b j))

-- a test that holds of just the members of the list
pub same_listed : (test : ℕ → Bool) (ids : List ℕ) → ((id : ℕ) → Listed ids id → test id ≡ true) → ((id : ℕ) → test id ≡ true → Listed ids id) → (j : ℕ) → listed_in ids j ≡ test j
same_listed test ids f h j = go (test j) refl
  where
    go : (b : Bool) → test j ≡ b → listed_in ids j ≡ b
    go true e = in_listed ids j (h j e)
    go false e = not_listed_in ids j (λ m. true≢false (sym (f j m) ∙ e))

-- ---- the sum of a weight over a list, without regard to its order
sum_same : (f h : ℕ → ℕ) (n : ℕ) → ((k : ℕ) → k < n → f k ≡ h k) → sum f n ≡ sum h n
unfolding sum
sum_same f h zero e = refl
sum_same f h (suc n) e = λ i. sum_same f h n (λ k l. e k (omega arith)) i + e n (omega arith) i

sum_zero : (n : ℕ) → sum (λ k. 0) n ≡ 0
unfolding sum
sum_zero zero = refl
sum_zero (suc n) = let e = sum_zero n in omega arith

-- one number weighs c more
sum_more : (f h : ℕ → ℕ) (n id c : ℕ) → id < n → f id ≡ c + h id → ((k : ℕ) → k ≢ id → f k ≡ h k) → sum f n ≡ c + sum h n
unfolding sum
sum_more f h zero id c l e d = absurd (not-suc-le-zero l)
sum_more f h (suc n) id c l e d =
    elim (eq-or-lt_of_le (let z : id ≤ n = omega arith in z)) [
      | inl q ↦
          let rest = sum_same f h n (λ k b. d k (λ z. omega arith)) in
          let last : f n ≡ c + h n = subst (λ (k : ℕ). f k ≡ c + h k) q e in
          omega arith
      | inr b ↦
          let rest = sum_more f h n id c b e d in
          let last = d n (λ z. omega arith) in
          omega arith
    ]

module _ (u : ℕ → Updated) where
  abbrev weight : ℕ → ℕ
  weight id = cond (is_recycled (u id).way) 1 0

  abbrev weighed : List ℕ → ℕ → ℕ
  weighed ids k = cond (listed_in ids k) (weight k) 0

  weighed_first : (id : ℕ) (ids : List ℕ) → listed_in ids id ≡ false → weighed (id ∷ ids) id ≡ weight id + weighed ids id
  unfolding listed_in
  weighed_first id ids n =
      ap (λ (b : Bool). cond (b || listed_in ids id) (weight id) 0) (eq-eqb id id refl)
      ∙ sym (ap (λ (b : Bool). weight id + cond b (weight id) 0) n ∙ add-zero (weight id))

  weighed_rest : (id : ℕ) (ids : List ℕ) (k : ℕ) → k ≢ id → weighed (id ∷ ids) k ≡ weighed ids k
  unfolding listed_in
  weighed_rest id ids k n = ap (λ (b : Bool). cond (b || listed_in ids k) (weight k) 0) (ne_eqb id k (λ e. n (sym e)))

  recycled_sum : (n : ℕ) (ids : List ℕ) → AllBelow n ids → Distinct ids → recycled_of u ids ≡ sum (weighed ids) n
  unfolding recycled_of listed_in
  recycled_sum n [] b d = sym (sum_zero n)
  recycled_sum n (id ∷ ids) b d =
      let rest = recycled_sum n ids (λ k l. b (suc k) (suc-le-suc l)) (λ j k l m. d (suc j) (suc k) (suc-le-suc l) (suc-le-suc m)) in
      let fresh = not_listed_in ids id (λ m. d zero (suc m.0) (zero-lt-suc m.0) (suc-le-suc m.1) (sym m.2)) in
      ap (λ (k : ℕ). weight id + k) rest
      ∙ sym (sum_more (weighed (id ∷ ids)) (weighed ids) n id (weight id) (b zero (zero-lt-suc (length ids))) (weighed_first id ids fresh) (weighed_rest id ids))

  -- two lists of the same contacts, each once
  pub recycled_any : (n : ℕ) (a b : List ℕ) → AllBelow n a → AllBelow n b → Distinct a → Distinct b → SameMembers a b → recycled_of u a ≡ recycled_of u b
  recycled_any n a b p q d e m =
      let same : (k : ℕ) → listed_in a k ≡ listed_in b k = same_listed (listed_in b) a (λ i l. in_listed b i (m.0 i l)) (λ i t. m.1 i (listed_in_lem b i t)) in
      recycled_sum n a p d ∙ sum_same (weighed a) (weighed b) n (λ k l. ap (λ (t : Bool). cond t (weight k) 0) (same k)) ∙ sym (recycled_sum n b q e)

  -- ---- the distances
  abbrev distance_word : ℕ → ℕ
  distance_word id = float_word (u id).max_contact_distance

  distance_put : (ds : List ℕ) (id k : ℕ) → id < length ds → get_or (put ds id (distance_word id ∷ [])) k 0 ≡ cond (eqb id k) (distance_word k) (get_or ds k 0)
  distance_put ds id k l = go (eqb id k) refl
    where
      go : (b : Bool) → eqb id k ≡ b → get_or (put ds id (distance_word id ∷ [])) k 0 ≡ cond b (distance_word k) (get_or ds k 0)
      go true e =
          subst (λ (j : ℕ). get_or (put ds id (distance_word id ∷ [])) j 0 ≡ distance_word j) (eqb-true id k e)
          (ap (λ (r : List ℕ). get_or r id 0) (sym (put_one ds id (distance_word id))) ∙ get_or-set_same ds id (distance_word id) 0 l)
      go false e =
          ap (λ (r : List ℕ). get_or r k 0) (sym (put_one ds id (distance_word id))) ∙ get_or-set_other ds id k (distance_word id) 0 (λ q. eqb-false id k e (sym q))

  -- the distance of a contact of the list is stored at its id, and any other is as it was
  pub distance_after : (ds ids : List ℕ) (k : ℕ) → AllBelow (length ds) ids → get_or (distances_after u ds ids) k 0 ≡ cond (listed_in ids k) (distance_word k) (get_or ds k 0)
  unfolding distances_after listed_in
  distance_after ds [] k b = refl
  distance_after ds (id ∷ ids) k b =
      let next = put ds id (distance_word id ∷ []) in
      let size : length next ≡ length ds = length_put ds id (distance_word id ∷ []) in
      distance_after next ids k (λ j l. omega (arith, b (suc j) (suc-le-suc l), size))
      ∙ ap (cond (listed_in ids k) (distance_word k)) (distance_put ds id k (b zero (zero-lt-suc (length ids)))) ∙ either (listed_in ids k) (eqb id k)
    where
      either : (s t : Bool) → cond s (distance_word k) (cond t (distance_word k) (get_or ds k 0)) ≡ cond (t || s) (distance_word k) (get_or ds k 0)
      either true true = refl
      either true false = refl
      either false true = refl
      either false false = refl

  -- the distances of all contacts, in any order, over words that were 0
  pub distances_any : (g : List ℕ) (ds ids : List ℕ) → length ds ≡ capacity_of g → ((k : ℕ) → get_or ds k 0 ≡ 0) → AllBelow (capacity_of g) ids → Distinct ids
      → ((id : ℕ) → Listed ids id → stands g id ≡ true) → ((id : ℕ) → stands g id ≡ true → Listed ids id) → distances_after u ds ids ≡ distances_of u g
  unfolding distances_of
  distances_any g ds ids e z b d f h =
      let n = capacity_of g in
      let word : ℕ → ℕ = λ id. cond (stands g id) (distance_word id) 0 in
      let size : length (distances_after u ds ids) ≡ n = length_distances_after u ds ids ∙ e in
      ext_get_or 0 (distances_after u ds ids) (map word (upto n)) (size ∙ sym (length_map_upto word n))
      (λ k l. distance_after ds ids k (subst (λ (m : ℕ). AllBelow m ids) (sym e) b)
      ∙ ap (cond (listed_in ids k) (distance_word k)) (z k) ∙ ap (λ (t : Bool). cond t (distance_word k) 0) (same_listed (stands g) ids f h k)
      ∙ sym (get_d_map_upto word n k 0 (omega (arith, size))))
