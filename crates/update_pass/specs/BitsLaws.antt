-- The shares' entries are the active contacts, each once, and the workers' bits joined are the bits of the graph's contacts. Assumes nothing.
use Prim.Native.Nat.{ℕ, zero, suc, ◌+◌, ◌-◌, ◌*◌, ◌/◌, ◌%◌, ◌≤◌, ◌<◌, suc-le-suc}
use Rattle.std.proofs.Common.{zero-lt-suc, not-suc-le-zero, add-zero, add-suc, arith, ◌∙◌}
use Rattle.std.specs.Prelude.{◌≡◌, refl, Bool, true, ◌&&◌, ◌||◌, length, get_or}
use Rattle.std.proofs.Math.Path.{sym, ap, subst}
use Rattle.std.proofs.Math.Bool.{false, cond, not, or-true, or-false}
use mathlib.Core.List.{List, [], ◌∷◌, ◌++◌, map, append-nil}
use borrow.Author.Tests.{eqb-true, eqb-false, lt-ltb, le-ltb, leb-true, not-true}
use Rattle.std.proofs.Math.Dec.{eqb, ltb, leb}
use Rattle.rows.specs.Slots.{upto, Listed, Distinct, AllBelow, SameMembers}
use Rattle.rules.specs.Numbers.{every}
use Rattle.rule_laws.specs.NumberLaws.{every_at}
use Rattle.rules.specs.Update.{Updated}
use Rattle.data_structures.specs.BitVec.{blocks_of, bit_of, bit_at, marked, numbers_with, set_bits}
use Rattle.data_structures.specs.BitVecLaws.{blocks_hold, length_joined, bit_joined, bit_marked}
use Rattle.data_structures.specs.NumberLaws.{numbers_same, numbers_append, numbers_none}
use Rattle.data_structures.specs.WordLaws.{bit_zero}
use Rattle.manifold_records.specs.ListLaws.{get_d_map_upto, length_map_upto, length_zeros}
use Rattle.manifold_records.specs.Written.{zeros}
use Rattle.contact_range.specs.Checked.{Checked}
use Rattle.contact_range.specs.Range.{stands}
use Rattle.contact_range.specs.RangeLaws.{first_of_lem, rest_of, stands_at, stands_found, standing_below, listed_once}
use Rattle.contact_range.specs.Recorded.{capacity_of, listed_count, listed_at}
use Rattle.shares.specs.Shares.{workers_of, count_of, start_of, total_of, entry_at, times, counts_fit, entries_stand, active_once, entries_once, shares_fit}
use Rattle.shares.specs.SharesLaws.{active_linear}
use Rattle.update_pass.specs.ListsLaws.{start_within, entries_split, length_bit, length_bits_after, listed_in, listed_in_append, same_listed}
use Rattle.update_pass.specs.Shared.{active_of, entries_of, first_of, share_of, bits_after, worker_bits, joined_of, standing_ids}

-- ---- a row by number
module _ (f : ℕ → ℕ) (n : ℕ) where
  row_listed : (k : ℕ) → k < n → Listed (map f (upto n)) (f k)
  row_listed k l = (k, rw (length_map_upto f n) l, get_d_map_upto f n k 0 l)

  row_found : (i : ℕ) → Listed (map f (upto n)) i → (k : ℕ) × (k < n) × (f k ≡ i)
  row_found i m = let l : m.0 < n = omega (arith, m.1, length_map_upto f n) in (m.0, l, sym (get_d_map_upto f n m.0 0 l) ∙ m.2)

  row_distinct : ((j k : ℕ) → j < k → k < n → f j ≡ f k → ⊥) → Distinct (map f (upto n))
  row_distinct d j k h l e =
      let b : k < n = omega (arith, length_map_upto f n) in
      d j k h b (sym (get_d_map_upto f n j 0 (omega arith)) ∙ e ∙ get_d_map_upto f n k 0 b)

  row_below : (m : ℕ) → ((k : ℕ) → k < n → f k < m) → AllBelow m (map f (upto n))
  row_below m h k l = let b : k < n = omega (arith, length_map_upto f n) in omega (arith, get_d_map_upto f n k 0 b, h k b)

-- a number that is counted is there
times_some : (f : ℕ → ℕ) (x n : ℕ) → 0 < times f x n → (k : ℕ) × (k < n) × (f k ≡ x)
unfolding times
times_some f x zero h = absurd (not-suc-le-zero h)
times_some f x (suc n) h = go (eqb (f n) x) refl h (times_some f x n)
  where
    go : (b : Bool) → eqb (f n) x ≡ b → 0 < times f x n + cond b 1 0 → (0 < times f x n → (k : ℕ) × (k < n) × (f k ≡ x)) → (k : ℕ) × (k < suc n) × (f k ≡ x)
    go true e h r = (n, omega arith, eqb-true (f n) x e)
    go false e h r = let s = r (omega arith) in (s.0, omega (arith, s.1), s.2)

-- ---- the entries of shares that fit are the active contacts
pub record EntriesActive (xs g : List ℕ) : Type 0 where
  pub entries_apart : Distinct (entries_of xs)
  pub entries_below : AllBelow (capacity_of g) (entries_of xs)
  pub active_apart : Distinct (active_of g)
  pub active_below : AllBelow (capacity_of g) (active_of g)
  pub same : SameMembers (entries_of xs) (active_of g)
  pub standing : (id : ℕ) → Listed (entries_of xs) id → stands g id ≡ true
  pub listed : (id : ℕ) → stands g id ≡ true → Listed (entries_of xs) id

-- of the graph alone
module _ (g : List ℕ) (c : Checked g) where
  pub active_distinct : Distinct (active_of g)
  unfolding active_of
  active_distinct = row_distinct (listed_at g) (listed_count g) (λ j k h l e. let s = listed_once c.range j k (omega arith) l e in omega arith)

  pub active_under : AllBelow (capacity_of g) (active_of g)
  unfolding active_of
  active_under = row_below (listed_at g) (listed_count g) (capacity_of g) (λ k l. standing_below c.range (listed_at g k) (stands_at g k l))

pub active_stands : (g : List ℕ) (id : ℕ) → Listed (active_of g) id → stands g id ≡ true
unfolding active_of
active_stands g id m = let f = row_found (listed_at g) (listed_count g) id m in subst (λ (i : ℕ). stands g i ≡ true) f.2 (stands_at g f.0 f.1)

pub stands_active : (g : List ℕ) (id : ℕ) → stands g id ≡ true → Listed (active_of g) id
unfolding active_of
stands_active g id e = let f = stands_found g id e in subst (Listed (active_of g)) f.2 (row_listed (listed_at g) (listed_count g) f.0 f.1)

module _ (xs g : List ℕ) (c : Checked g) (fit : shares_fit xs g ≡ true) where
  counts_part : counts_fit xs g ≡ true
  unfolding shares_fit
  counts_part = first_of_lem (counts_fit xs g) (entries_stand xs g && active_once xs g) fit

  stand_part : entries_stand xs g ≡ true
  unfolding shares_fit
  stand_part = first_of_lem (entries_stand xs g) (active_once xs g) (rest_of (counts_fit xs g) (entries_stand xs g && active_once xs g) fit)

  once_part : active_once xs g ≡ true
  unfolding shares_fit
  once_part = rest_of (entries_stand xs g) (active_once xs g) (rest_of (counts_fit xs g) (entries_stand xs g && active_once xs g) fit)

  entry_stands : (j : ℕ) → j < total_of xs → stands g (entry_at xs j) ≡ true
  unfolding entries_stand
  entry_stands j b = every_at (λ k. stands g (entry_at xs k)) (total_of xs) j stand_part b

  entry_apart : (j k : ℕ) → j < k → k < total_of xs → entry_at xs j ≡ entry_at xs k → ⊥
  unfolding entries_once
  entry_apart j k b d z =
      let o = first_of_lem (entries_once xs) (eqb (total_of xs) (listed_count g)) (sym (active_linear xs g c stand_part) ∙ once_part) in
      let t = every_at (λ i. not (eqb (entry_at xs i) (entry_at xs k))) k j (every_at (λ i. every (λ h. not (eqb (entry_at xs h) (entry_at xs i))) i) (total_of xs) k o d) b in
      eqb-false (entry_at xs j) (entry_at xs k) (not-true (eqb (entry_at xs j) (entry_at xs k)) t) z

  entry_of : (p : ℕ) → p < listed_count g → (j : ℕ) × (j < total_of xs) × (entry_at xs j ≡ listed_at g p)
  unfolding active_once
  entry_of p l =
      let n = times (entry_at xs) (listed_at g p) (total_of xs) in
      let one = eqb-true n 1 (every_at (λ q. eqb (times (entry_at xs) (listed_at g q) (total_of xs)) 1) (listed_count g) p once_part l) in
      times_some (entry_at xs) (listed_at g p) (total_of xs) (omega arith)

  listed_stands : (id : ℕ) → Listed (entries_of xs) id → stands g id ≡ true
  unfolding entries_of
  listed_stands id m = let f = row_found (entry_at xs) (total_of xs) id m in subst (λ (i : ℕ). stands g i ≡ true) f.2 (entry_stands f.0 f.1)

  stands_listed : (id : ℕ) → stands g id ≡ true → Listed (entries_of xs) id
  unfolding entries_of
  stands_listed id e =
      let p = stands_found g id e in
      let f = entry_of p.0 p.1 in
      subst (Listed (entries_of xs)) (f.2 ∙ p.2) (row_listed (entry_at xs) (total_of xs) f.0 f.1)

  pub entries_active : EntriesActive xs g
  unfolding entries_of
  entries_active =
      record {
        entries_apart = row_distinct (entry_at xs) (total_of xs) entry_apart;
        entries_below = row_below (entry_at xs) (total_of xs) (capacity_of g) (λ k l. standing_below c.range (entry_at xs k) (entry_stands k l));
        active_apart = active_distinct g c;
        active_below = active_under g c;
        same = (λ i m. stands_active g i (listed_stands i m), λ i m. stands_listed i (active_stands g i m));
        standing = listed_stands;
        listed = stands_listed;
      }

  -- the number of workers is at most 8
  pub workers_most : workers_of xs ≤ 8
  unfolding counts_fit
  workers_most =
      let a = ltb 0 (workers_of xs) in
      let b = leb (workers_of xs) 8 in
      leb-true (workers_of xs) 8 (rest_of a b (first_of_lem (a && b) (leb (total_of xs) (capacity_of g)) counts_part))

-- ---- a bit of words that were 0
zeros_word : (n i : ℕ) → get_or (zeros n) i 0 ≡ 0
unfolding zeros
zeros_word zero i = refl
zeros_word (suc n) zero = refl
zeros_word (suc n) (suc i) = zeros_word n i

pub bit_zeros : (n j : ℕ) → bit_at (zeros n) j ≡ false
unfolding bit_at
bit_zeros n j = ap (λ (w : ℕ). bit_of w (j % 64)) (zeros_word n (j / 64)) ∙ bit_zero (j % 64)

-- ---- a bit after the updates of a list
-- found among the first, or among the others
found_among : (x p q c : Bool) → ((x || (p && c)) || (q && c)) ≡ (x || ((p || q) && c))
found_among true p q c = refl
found_among false true q true = refl
found_among false true true false = refl
found_among false true false false = refl
found_among false false q c = refl

module _ (u : ℕ → Updated) where
  -- one contact
  bit_one : (bits : List ℕ) (id j : ℕ) → id < 64 * length bits → bit_at (cond (u id).bit (marked bits id) bits) j ≡ (bit_at bits j || (eqb id j && (u j).bit))
  bit_one bits id j l = go (eqb id j) refl (u id).bit refl
    where
      go : (t : Bool) → eqb id j ≡ t → (b : Bool) → (u id).bit ≡ b → bit_at (cond b (marked bits id) bits) j ≡ (bit_at bits j || (t && (u j).bit))
      go true e true s =
          bit_marked bits id j l ∙ ap (λ (t : Bool). cond t true (bit_at bits j)) e
          ∙ sym (ap (λ (t : Bool). bit_at bits j || t) (ap (λ (k : ℕ). (u k).bit) (sym (eqb-true id j e)) ∙ s) ∙ or-true (bit_at bits j))
      go true e false s = sym (ap (λ (t : Bool). bit_at bits j || t) (ap (λ (k : ℕ). (u k).bit) (sym (eqb-true id j e)) ∙ s) ∙ or-false (bit_at bits j))
      go false e true s = bit_marked bits id j l ∙ ap (λ (t : Bool). cond t true (bit_at bits j)) e ∙ sym (or-false (bit_at bits j))
      go false e false s = sym (or-false (bit_at bits j))

  pub bit_after : (bits ids : List ℕ) (j : ℕ) → AllBelow (64 * length bits) ids → bit_at (bits_after u bits ids) j ≡ (bit_at bits j || (listed_in ids j && (u j).bit))
  unfolding bits_after listed_in
  bit_after bits [] j b = sym (or-false (bit_at bits j))
  bit_after bits (id ∷ ids) j b =
      let next = cond (u id).bit (marked bits id) bits in
      bit_after next ids j (subst (λ (n : ℕ). AllBelow (64 * n) ids) (sym (length_bit u bits id)) (λ k l. b (suc k) (suc-le-suc l)))
      ∙ ap (λ (t : Bool). t || (listed_in ids j && (u j).bit)) (bit_one bits id j (b zero (zero-lt-suc (length ids))))
      ∙ found_among (bit_at bits j) (eqb id j) (listed_in ids j) (u j).bit

  -- over words that were 0
  bit_over_zeros : (blocks : ℕ) (ids : List ℕ) (j : ℕ) → AllBelow (64 * blocks) ids → bit_at (bits_after u (zeros blocks) ids) j ≡ (listed_in ids j && (u j).bit)
  bit_over_zeros blocks ids j b =
      bit_after (zeros blocks) ids j (subst (λ (n : ℕ). AllBelow (64 * n) ids) (sym (length_zeros blocks)) b)
      ∙ ap (λ (t : Bool). t || (listed_in ids j && (u j).bit)) (bit_zeros blocks j)

  module _ (blocks : ℕ) (xs : List ℕ) where
    -- the bit of a contact in a worker's part
    pub part_bits : (w id : ℕ) → AllBelow (64 * blocks) (share_of xs w) → bit_at (worker_bits u blocks xs w) id ≡ (listed_in (share_of xs w) id && (u id).bit)
    unfolding worker_bits
    part_bits w id b = bit_over_zeros blocks (share_of xs w) id b

    pub length_part_bits : (w : ℕ) → length (worker_bits u blocks xs w) ≡ blocks
    unfolding worker_bits
    length_part_bits w = length_bits_after u (zeros blocks) (share_of xs w) ∙ length_zeros blocks

    pub length_joined_bits : (n : ℕ) → length (joined_of u blocks xs n) ≡ blocks
    unfolding joined_of
    length_joined_bits zero = length_zeros blocks
    length_joined_bits (suc n) =
        let l = length_joined_bits n in
        let m = length_part_bits n in
        length_joined (joined_of u blocks xs n) (worker_bits u blocks xs n) (omega arith) ∙ l

    -- a worker that is given, and one that is not
    given_share : (w : ℕ) → w < workers_of xs → share_of xs w ≡ first_of xs w (count_of xs w)
    unfolding share_of
    given_share w l = ap (λ (t : Bool). cond t (first_of xs w (count_of xs w)) []) (lt-ltb w (workers_of xs) l)

    pub past_share : (w : ℕ) → workers_of xs ≤ w → share_of xs w ≡ []
    unfolding share_of
    past_share w l = ap (λ (t : Bool). cond t (first_of xs w (count_of xs w)) []) (le-ltb w (workers_of xs) l)

    past_bits : (w j : ℕ) → workers_of xs ≤ w → bit_at (worker_bits u blocks xs w) j ≡ false
    unfolding worker_bits bits_after
    past_bits w j l = ap (λ (ids : List ℕ). bit_at (bits_after u (zeros blocks) ids) j) (past_share w l) ∙ bit_zeros blocks j

    -- ---- the parts joined
    -- the contacts of the first n workers
    abbrev first_shares : ℕ → List ℕ
    first_shares n = map (entry_at xs) (upto (start_of xs n))

    module _ (below : (k : ℕ) → k < total_of xs → entry_at xs k < 64 * blocks) where
      share_below : (w : ℕ) → w < workers_of xs → AllBelow (64 * blocks) (share_of xs w)
      unfolding start_of
      share_below w l =
          let room : start_of xs w + count_of xs w ≤ total_of xs = start_within xs (suc w) l in
          subst (AllBelow (64 * blocks)) (sym (given_share w l))
          (row_below (λ j. entry_at xs (start_of xs w + j)) (count_of xs w) (64 * blocks) (λ k h. below (start_of xs w + k) (omega arith)))

      given_bits : (w j : ℕ) → w < workers_of xs → bit_at (worker_bits u blocks xs w) j ≡ (listed_in (first_of xs w (count_of xs w)) j && (u j).bit)
      given_bits w j l = part_bits w j (share_below w l) ∙ ap (λ (ids : List ℕ). listed_in ids j && (u j).bit) (given_share w l)

      joined_given : (n j : ℕ) → n ≤ workers_of xs → bit_at (joined_of u blocks xs n) j ≡ (listed_in (first_shares n) j && (u j).bit)
      unfolding joined_of start_of upto listed_in
      joined_given zero j l = bit_zeros blocks j
      joined_given (suc n) j l =
          let own = first_of xs n (count_of xs n) in
          let c = (u j).bit in
          let before = joined_given n j (omega arith) in
          let part = given_bits n j l in
          bit_joined (joined_of u blocks xs n) (worker_bits u blocks xs n) j ∙ (λ i. before i || part i)
          ∙ found_among false (listed_in (first_shares n) j) (listed_in own j) c
          ∙ ap (λ (t : Bool). t && c) (sym (ap (λ (ids : List ℕ). listed_in ids j) (entries_split xs n) ∙ listed_in_append (first_shares n) own j))

      joined_past : (d j : ℕ) → bit_at (joined_of u blocks xs (workers_of xs + d)) j ≡ (listed_in (entries_of xs) j && (u j).bit)
      unfolding joined_of entries_of
      joined_past zero j = ap (λ (n : ℕ). bit_at (joined_of u blocks xs n) j) (add-zero (workers_of xs)) ∙ joined_given (workers_of xs) j (omega arith)
      joined_past (suc d) j =
          let n = workers_of xs + d in
          let before = joined_past d j in
          let part = past_bits n j (omega arith) in
          ap (λ (m : ℕ). bit_at (joined_of u blocks xs m) j) (add-suc (workers_of xs) d) ∙ bit_joined (joined_of u blocks xs n) (worker_bits u blocks xs n) j
          ∙ (λ i. before i || part i) ∙ or-false (listed_in (entries_of xs) j && (u j).bit)

  -- a bit of the parts of eight workers joined
  pub joined_bits : (blocks : ℕ) (xs : List ℕ) (j : ℕ) → workers_of xs ≤ 8 → ((k : ℕ) → k < total_of xs → entry_at xs k < 64 * blocks)
      → bit_at (joined_of u blocks xs 8) j ≡ (listed_in (entries_of xs) j && (u j).bit)
  joined_bits blocks xs j l below =
      ap (λ (n : ℕ). bit_at (joined_of u blocks xs n) j) (let z : 8 ≡ workers_of xs + (8 - workers_of xs) = omega arith in z) ∙ joined_past blocks xs below (8 - workers_of xs) j

  -- ---- the set bits
  -- of a range, only numbers below n pass
  numbers_short : (f h : ℕ → Bool) (n m : ℕ) → n ≤ m → ((k : ℕ) → f k ≡ h k) → ((k : ℕ) → n ≤ k → h k ≡ false) → numbers_with f 0 m ≡ numbers_with h 0 n
  numbers_short f h n m l e none =
      numbers_same f h 0 m (λ k a b. e k) ∙ ap (numbers_with h 0) (let z : m ≡ n + (m - n) = omega arith in z) ∙ numbers_append h 0 n (m - n)
      ∙ ap (λ (r : List ℕ). numbers_with h 0 n ++ r)
      (numbers_same h (λ k. false) (0 + n) (m - n) (λ k a b. none k (omega arith)) ∙ numbers_none (λ k. false) (0 + n) (m - n) (λ k. refl))
      ∙ append-nil (numbers_with h 0 n)

  module _ (xs g : List ℕ) (c : Checked g) (fit : shares_fit xs g ≡ true) where
    abbrev words : List ℕ
    words = joined_of u (blocks_of (capacity_of g)) xs 8

    entry_room : (k : ℕ) → k < total_of xs → entry_at xs k < 64 * blocks_of (capacity_of g)
    entry_room k l = omega (arith, standing_below c.range (entry_at xs k) (entry_stands xs g c fit k l), (blocks_hold (capacity_of g)).0)

    standing_bit : (j : ℕ) → bit_at words j ≡ (stands g j && (u j).bit)
    standing_bit j =
        joined_bits (blocks_of (capacity_of g)) xs j (workers_most xs g c fit) entry_room
        ∙ ap (λ (t : Bool). t && (u j).bit) (same_listed (stands g) (entries_of xs) (listed_stands xs g c fit) (stands_listed xs g c fit) j)

    not_past : (k : ℕ) → capacity_of g ≤ k → (stands g k && (u k).bit) ≡ false
    not_past k l = go (stands g k) refl
      where
        go : (t : Bool) → stands g k ≡ t → (t && (u k).bit) ≡ false
        go true e = absurd (omega (arith, standing_below c.range k e))
        go false e = refl

    -- the workers' bits, joined, are the contacts whose status bit stands
    pub standing_set : set_bits (joined_of u (blocks_of (capacity_of g)) xs 8) ≡ standing_ids u g
    unfolding set_bits standing_ids
    standing_set =
        ap (λ (n : ℕ). numbers_with (bit_at words) 0 (64 * n)) (length_joined_bits (blocks_of (capacity_of g)) xs 8)
        ∙ numbers_short (bit_at words) (λ id. stands g id && (u id).bit) (capacity_of g) (64 * blocks_of (capacity_of g)) (blocks_hold (capacity_of g)).0 standing_bit not_past
