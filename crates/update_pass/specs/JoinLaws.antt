-- The workers' parts in the bit words, and their join. Assumes nothing.
use Prim.Native.Nat.{ℕ, zero, suc, ◌+◌, ◌-◌, ◌*◌, ◌≤◌, ◌<◌}
use Rattle.std.proofs.Common.{not-suc-le-zero, eq-or-lt_of_le, add-one, subst, ◌∙◌, lit≤, ext_get_or}
use Rattle.std.proofs.Math.Nat.{suc-mul, mul-le-mul_right}
use native.Mathlib.Omega.{arith}
use Rattle.std.specs.Prelude.{◌≡◌, List, [], ◌∷◌, take, drop}
use Rattle.std.proofs.Math.Path.{refl, sym, ap}
use Rattle.std.proofs.Math.Logic.{inl, inr}
use Rattle.std.proofs.Math.ListN.{length, get_or, get_or-append}
use Rattle.std.proofs.Math.Seq.{get_or-append-add}
use Rattle.rows.specs.Rows.{part}
use Rattle.rows.specs.Laws.{length_part, get_d_part}
use Rattle.rules.specs.Update.{Updated}
use Rattle.data_structures.specs.BitVec.{joined, Visited}
use Rattle.data_structures.specs.BitVecLaws.{length_joined}
use Rattle.manifold_records.specs.ListLaws.{length_zeros}
use Rattle.manifold_records.specs.Written.{zeros}
use Rattle.contact_update.specs.ContactLaws.{lent_part}
use Rattle.update_pass.specs.AllLaws.{length_parts}
use Rattle.update_pass.specs.BitsLaws.{length_part_bits}
use Rattle.update_pass.specs.Share.{joined_parts}
use Rattle.update_pass.specs.Shared.{worker_bits, parts_of, joined_of}

module _ (u : ℕ → Updated) (blocks : ℕ) (xs : List ℕ) where
  -- word i of worker w's part
  pub part_word : (n w i : ℕ) → w < n → i < blocks → get_or (parts_of u blocks xs n) (w * blocks + i) 0 ≡ get_or (worker_bits u blocks xs w) i 0
  unfolding parts_of
  part_word zero w i l b = absurd (not-suc-le-zero l)
  part_word (suc n) w i l b =
      elim (eq-or-lt_of_le (let z : w ≤ n = omega arith in z)) [
        | inl q ↦
            ap (λ (k : ℕ). get_or (parts_of u blocks xs (suc n)) (k + i) 0) (ap (λ (k : ℕ). k * blocks) q ∙ sym (length_parts u blocks xs n))
            ∙ get_or-append-add (parts_of u blocks xs n) (worker_bits u blocks xs n) i 0 ∙ ap (λ (k : ℕ). get_or (worker_bits u blocks xs k) i 0) (sym q)
        | inr h ↦ get_or-append (parts_of u blocks xs n) (worker_bits u blocks xs n) 0 (w * blocks + i) (before h) ∙ part_word n w i h b
      ]
    where
      before : w < n → w * blocks + i < length (parts_of u blocks xs n)
      before h = let s = suc-mul w blocks in let m : suc w * blocks ≤ n * blocks = mul-le-mul_right blocks h in omega (arith, length_parts u blocks xs n)

  pub part_of : (n w : ℕ) → w < n → part (parts_of u blocks xs n) (w * blocks) blocks ≡ worker_bits u blocks xs w
  part_of n w l =
      let room : w * blocks + blocks ≤ length (parts_of u blocks xs n) =
      let m : suc w * blocks ≤ n * blocks = mul-le-mul_right blocks l in omega (arith, suc-mul w blocks, length_parts u blocks xs n) in
      let size = length_part (parts_of u blocks xs n) (w * blocks) blocks room in
      ext_get_or 0 (part (parts_of u blocks xs n) (w * blocks) blocks) (worker_bits u blocks xs w) (size ∙ sym (length_part_bits u blocks xs w))
      (λ i b. let h : i < blocks = omega arith in get_d_part (parts_of u blocks xs n) (w * blocks) blocks i 0 h ∙ part_word n w i l h)

  -- the parts that the workers leave, joined
  pub join_parts : (m n : ℕ) → n ≤ m → joined_parts blocks (parts_of u blocks xs m) n ≡ joined_of u blocks xs n
  unfolding joined_parts joined_of
  join_parts m zero l = refl
  join_parts m (suc n) l = λ i. joined (join_parts m n (omega arith) i) (part_of m n l i)

-- ---- as the code joins them
module _ (count : ℕ) (bits : List ℕ) (size : length bits ≡ 8 * count) where
  pub part_room : (w : ℕ) → w < 8 → w * count + count ≤ 8 * count
  part_room w l = let m : suc w * count ≤ 8 * count = mul-le-mul_right count l in let e = suc-mul w count in omega arith

  pub part_length : (w n : ℕ) → w < 8 → n ≡ count → length (take n (drop (w * count) bits)) ≡ count
  part_length w n l e =
      ap (λ (x : List ℕ). length x) (lent_part bits (w * count) n count e) ∙ length_part bits (w * count) count (let r = part_room w l in omega arith)

  pub join_next : (w n : ℕ) {js js' : List ℕ} → n ≡ count → js ≡ joined_parts count bits w → js' ≡ joined js (take n (drop (w * count) bits)) → js' ≡ joined_parts count bits (w + 1)
  unfolding joined_parts
  join_next w n e p q = q ∙ (λ i. joined (p i) (lent_part bits (w * count) n count e i)) ∙ ap (joined_parts count bits) (sym (add-one w))

  length_joined_parts : (w : ℕ) → w ≤ 8 → length (joined_parts count bits w) ≡ count
  unfolding joined_parts
  length_joined_parts zero l = length_zeros count
  length_joined_parts (suc w) l =
      let m = length_joined_parts w (omega arith) in
      let p = length_part bits (w * count) count (let r = part_room w l in omega arith) in
      length_joined (joined_parts count bits w) (part bits (w * count) count) (omega arith) ∙ m

  pub joined_length : {js : List ℕ} → js ≡ joined_parts count bits 8 → length js ≡ count
  joined_length e = ap (λ (x : List ℕ). length x) e ∙ length_joined_parts 8 (lit≤ tt)

  pub joined_visited : {js ids ids' : List ℕ} {r : ℕ} → js ≡ joined_parts count bits 8 → Visited js ids ids' r → Visited (joined_parts count bits 8) ids ids' r
  joined_visited {js} {ids} {ids'} {r} e v = subst (λ (x : List ℕ). Visited x ids ids' r) e v

-- the first words of four
pub first_zeros : (n : ℕ) → n ≤ 4 → take (n - 0) (0 ∷ 0 ∷ 0 ∷ 0 ∷ []) ≡ zeros n
unfolding zeros
first_zeros n l = ap (λ (k : ℕ). take k (0 ∷ 0 ∷ 0 ∷ 0 ∷ [])) (let e : n - 0 ≡ n = omega arith in e) ∙ go n l
  where
    go : (n : ℕ) → n ≤ 4 → take n (0 ∷ 0 ∷ 0 ∷ 0 ∷ []) ≡ zeros n
    go zero l = refl
    go (suc zero) l = refl
    go (suc (suc zero)) l = refl
    go (suc (suc (suc zero))) l = refl
    go (suc (suc (suc (suc zero)))) l = refl
    go (suc (suc (suc (suc (suc n))))) l = absurd (omega arith)
