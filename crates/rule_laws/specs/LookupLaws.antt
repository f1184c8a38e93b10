-- Lists of pairs by their ids: looking one up, counting an id, and what swap-removal does to both. Assumes nothing.
use Rattle.std.specs.Prelude.{ℕ, zero, suc, ◌+◌, ◌-◌, ◌≤◌, ◌≡◌, refl, ◌≢◌, ◌⊎◌, Bool, true, false, cond, eqb, T, length, get_or, take, set, Option, None, Some}
use Rattle.std.proofs.Common.{sym, ap, ◌∙◌, inl, inr, arith, eqb→eq, length-append}
use mathlib.Core.List.Memᴰ
use mathlib.Core.List.{List, [], ◌∷◌, map, ◌++◌, Memᴰ}
use Rattle.std.proofs.Math.Dec.{eqb_refl}
use Rattle.rules.specs.Records.{Pair, Names}
use Rattle.rules.specs.Graph.{pair_index, swap_remove}

-- a test of two numbers, with what it says
pub data Test (x y : ℕ) : Bool → Type 0 where
  same : x ≡ y → Test x y true
  other : x ≢ y → Test x y false

pub test : (x y : ℕ) → Test x y (eqb x y)
test x y = go (eqb x y) (λ t. eqb→eq x y t) (λ e. rw e (eqb_refl y))
  where
    go : (b : Bool) → (T b → x ≡ y) → (x ≡ y → T b) → Test x y b
    go true f g = same (f tt)
    go false f g = other g

pub eqb_same : (x : ℕ) → eqb x x ≡ true
eqb_same x = go (eqb x x) (eqb_refl x)
  where
    go : (b : Bool) → T b → b ≡ true
    go true t = refl
    go false t = absurd t

pub eqb_other : (x y : ℕ) → x ≢ y → eqb x y ≡ false
eqb_other x y n = go (eqb x y) (test x y)
  where
    go : (b : Bool) → Test x y b → b ≡ false
    go true (same e) = absurd (n e)
    go false (other m) = refl

-- how often an id stands in a list of ids
unfoldable pub tally : ℕ → List ℕ → ℕ
tally x [] = 0
tally x (y ∷ ys) = cond (eqb y x) 1 0 + tally x ys

abbrev pub ids : List Pair → List ℕ
ids ps = map (λ (p : Pair). p.names.id) ps

unfoldable pub find : ℕ → List Pair → Option Pair
find k [] = None
find k (p ∷ ps) = cond (eqb p.names.id k) (Some p) (find k ps)

abbrev pub first : {A : Type 0} → Option A → Option A → Option A
first None o = o
first (Some a) o = Some a

pub first_none : {A : Type 0} (o : Option A) → first o None ≡ o
first_none None = refl
first_none (Some a) = refl

pub tally_append : (x : ℕ) (s t : List ℕ) → tally x (s ++ t) ≡ tally x s + tally x t
unfolding tally
tally_append x [] t = omega arith
tally_append x (y ∷ s) t = omega (arith, tally_append x s t)

pub tally_ids_append : (x : ℕ) (s t : List Pair) → tally x (ids (s ++ t)) ≡ tally x (ids s) + tally x (ids t)
unfolding tally
tally_ids_append x [] t = omega arith
tally_ids_append x (p ∷ s) t = omega (arith, tally_ids_append x s t)

pub find_append : (k : ℕ) (s t : List Pair) → find k (s ++ t) ≡ first (find k s) (find k t)
unfolding find
find_append k [] t = refl
find_append k (p ∷ s) t = go (eqb p.names.id k) (find_append k s t)
  where
    go : (b : Bool) → find k (s ++ t) ≡ first (find k s) (find k t) → cond b (Some p) (find k (s ++ t)) ≡ first (cond b (Some p) (find k s)) (find k t)
    go true e = refl
    go false e = e

pub find_none : (k : ℕ) (ps : List Pair) → tally k (ids ps) ≡ 0 → find k ps ≡ None
unfolding find tally
find_none k [] e = refl
find_none k (p ∷ ps) e = go (eqb p.names.id k) e (λ z. find_none k ps z)
  where
    go : (b : Bool) → cond b 1 0 + tally k (ids ps) ≡ 0 → (tally k (ids ps) ≡ 0 → find k ps ≡ None) → cond b (Some p) (find k ps) ≡ None
    go true z below = absurd (omega arith)
    go false z below = below (omega arith)

-- a pair that is found has the id, stands in the list, and is counted
pub find_id : (k : ℕ) (ps : List Pair) (p : Pair) → find k ps ≡ Some p → p.names.id ≡ k
unfolding find
find_id k [] p e = absurd (let z : ◌≡◌ {A = ℕ} 0 1 = cc in omega arith)
find_id k (q ∷ ps) p e = go (eqb q.names.id k) (test q.names.id k) e (λ z. find_id k ps p z)
  where
    go : (b : Bool) → Test q.names.id k b → cond b (Some q) (find k ps) ≡ Some p → (find k ps ≡ Some p → p.names.id ≡ k) → p.names.id ≡ k
    go true (same f) z below = let g : q ≡ p = cc in rw (← g) f
    go false (other n) z below = below z

pub find_mem : (k : ℕ) (ps : List Pair) (p : Pair) → find k ps ≡ Some p → Memᴰ p ps
unfolding find
find_mem k [] p e = absurd (let z : ◌≡◌ {A = ℕ} 0 1 = cc in omega arith)
find_mem k (q ∷ ps) p e = go (eqb q.names.id k) e (λ z. find_mem k ps p z)
  where
    go : (b : Bool) → cond b (Some q) (find k ps) ≡ Some p → (find k ps ≡ Some p → Memᴰ p ps) → Memᴰ p (q ∷ ps)
    go true z below = let e : p ≡ q = cc in Memᴰ.head e
    go false z below = Memᴰ.tail (below z)

pub find_counted : (k : ℕ) (ps : List Pair) (p : Pair) → find k ps ≡ Some p → 1 ≤ tally k (ids ps)
unfolding find tally
find_counted k [] p e = absurd (let z : ◌≡◌ {A = ℕ} 0 1 = cc in omega arith)
find_counted k (q ∷ ps) p e = go (eqb q.names.id k) e (λ z. find_counted k ps p z)
  where
    go : (b : Bool) → cond b (Some q) (find k ps) ≡ Some p → (find k ps ≡ Some p → 1 ≤ tally k (ids ps)) → 1 ≤ cond b 1 0 + tally k (ids ps)
    go true z below = omega arith
    go false z below = omega (arith, below z)

-- and a pair that stands in the list is found, where its id stands but once
pub mem_counted : (ps : List Pair) (p : Pair) → Memᴰ p ps → 1 ≤ tally p.names.id (ids ps)
unfolding tally
mem_counted [] p m = absurd (Memᴰ.not-nil m)
mem_counted (q ∷ ps) p m = go (Memᴰ.cases_cons m) (λ n. mem_counted ps p n)
  where
    go : (p ≡ q) ⊎ Memᴰ p ps → (Memᴰ p ps → 1 ≤ tally p.names.id (ids ps)) → 1 ≤ cond (eqb q.names.id p.names.id) 1 0 + tally p.names.id (ids ps)
    go (inl e) below =
        omega (arith, ap {B = ℕ} (λ (x : ℕ). cond (eqb x p.names.id) 1 0) (ap (λ (r : Pair). r.names.id) (sym e)), ap {B = ℕ} (λ (t : Bool). cond t 1 0) (eqb_same p.names.id))
    go (inr n) below = omega (arith, below n)

pub mem_find : (ps : List Pair) (p : Pair) → tally p.names.id (ids ps) ≤ 1 → Memᴰ p ps → find p.names.id ps ≡ Some p
unfolding tally find
mem_find [] p h m = absurd (Memᴰ.not-nil m)
mem_find (q ∷ ps) p h m = go (eqb q.names.id p.names.id) (test q.names.id p.names.id) h (Memᴰ.cases_cons m) (λ u n. mem_find ps p u n)
  where
    go : (t : Bool) → Test q.names.id p.names.id t → cond t 1 0 + tally p.names.id (ids ps) ≤ 1 → (p ≡ q) ⊎ Memᴰ p ps →
        (tally p.names.id (ids ps) ≤ 1 → Memᴰ p ps → find p.names.id ps ≡ Some p) → cond t (Some q) (find p.names.id ps) ≡ Some p
    go true (same f) u (inl e) below = ap {B = Option Pair} Some (sym e)
    go true (same f) u (inr n) below = absurd (omega (arith, mem_counted ps p n))
    go false (other d) u (inl e) below = absurd (d (ap (λ (r : Pair). r.names.id) (sym e)))
    go false (other d) u (inr n) below = below (omega arith) n

-- what maps pairs and keeps names keeps the ids and maps what is found
pub ids_map : (f : Pair → Pair) → ((p : Pair) → (f p).names ≡ p.names) → (ps : List Pair) → ids (map f ps) ≡ ids ps
ids_map f n [] = refl
ids_map f n (p ∷ ps) = rw (n p, ids_map f n ps) refl

abbrev pub mapped : {A B : Type 0} → (A → B) → Option A → Option B
mapped f None = None
mapped f (Some a) = Some (f a)

pub find_map : (f : Pair → Pair) → ((p : Pair) → (f p).names ≡ p.names) → (k : ℕ) (ps : List Pair) → find k (map f ps) ≡ mapped f (find k ps)
unfolding find
find_map f n k [] = refl
find_map f n k (p ∷ ps) = ap (λ (m : Names). cond (eqb m.id k) (Some (f p)) (find k (map f ps))) (n p) ∙ go (eqb p.names.id k) (find_map f n k ps)
  where
    go : (b : Bool) → find k (map f ps) ≡ mapped f (find k ps) → cond b (Some (f p)) (find k (map f ps)) ≡ mapped f (cond b (Some p) (find k ps))
    go true e = refl
    go false e = e

-- ---- the last taken to the front

abbrev pub last_of : Pair → List Pair → Pair
last_of y [] = y
last_of y (z ∷ zs) = last_of z zs

abbrev pub front_of : Pair → List Pair → List Pair
front_of y [] = []
front_of y (z ∷ zs) = y ∷ front_of z zs

abbrev pub rotated : List Pair → List Pair
rotated [] = []
rotated (y ∷ ys) = last_of y ys ∷ front_of y ys

pub refront : (y : Pair) (ys : List Pair) → y ∷ ys ≡ front_of y ys ++ (last_of y ys ∷ [])
refront y [] = refl
refront y (z ∷ zs) = ap {B = List Pair} (λ r. y ∷ r) (refront z zs)

pub length_rotated : (ys : List Pair) → length (rotated ys) ≡ length ys
length_rotated [] = refl
length_rotated (y ∷ ys) = go y ys
  where
    go : (y : Pair) (ys : List Pair) → suc (length (front_of y ys)) ≡ suc (length ys)
    go y [] = refl
    go y (z ∷ zs) = ap suc (go z zs)

tally_moved : (x : ℕ) (f : List Pair) (l : Pair) → tally x (ids (l ∷ f)) ≡ tally x (ids f) + tally x (ids (l ∷ []))
unfolding tally
tally_moved x f l = omega arith

find_moved : (k : ℕ) (f : List Pair) (l : Pair) → tally k (ids f) + tally k (ids (l ∷ [])) ≤ 1 → find k (l ∷ f) ≡ first (find k f) (find k (l ∷ []))
unfolding find tally
find_moved k f l u = at (eqb l.names.id k) u
  where
    at : (b : Bool) → tally k (ids f) + (cond b 1 0 + 0) ≤ 1 → cond b (Some l) (find k f) ≡ first (find k f) (cond b (Some l) None)
    at true u = rw (find_none k f (omega arith)) refl
    at false u = sym (first_none (find k f))

pub tally_rotated : (x : ℕ) (ys : List Pair) → tally x (ids (rotated ys)) ≡ tally x (ids ys)
tally_rotated x [] = refl
tally_rotated x (y ∷ ys) =
    tally_moved x (front_of y ys) (last_of y ys) ∙ sym (tally_ids_append x (front_of y ys) (last_of y ys ∷ [])) ∙ ap (λ (l : List Pair). tally x (ids l)) (sym (refront y ys))

pub find_rotated : (k : ℕ) (ys : List Pair) → tally k (ids ys) ≤ 1 → find k (rotated ys) ≡ find k ys
find_rotated k [] h = refl
find_rotated k (y ∷ ys) h =
    find_moved k (front_of y ys) (last_of y ys) (omega (arith, ap (λ (l : List Pair). tally k (ids l)) (refront y ys), tally_ids_append k (front_of y ys) (last_of y ys ∷ [])))
    ∙ sym (find_append k (front_of y ys) (last_of y ys ∷ [])) ∙ ap (find k) (sym (refront y ys))

-- ---- swap-removal

removing_last : (y d : Pair) (ys : List Pair) (m : ℕ) → length ys ≡ m → (get_or (y ∷ ys) m d ∷ take m (y ∷ ys)) ≡ rotated (y ∷ ys)
removing_last y d [] zero e = refl
removing_last y d [] (suc m) e = absurd (omega arith)
removing_last y d (z ∷ zs) zero e = absurd (omega arith)
removing_last y d (z ∷ zs) (suc m) e = go (removing_last z d zs m (omega arith))
  where
    go : (get_or (z ∷ zs) m d ∷ take m (z ∷ zs)) ≡ rotated (z ∷ zs) → (get_or (z ∷ zs) m d ∷ y ∷ take m (z ∷ zs)) ≡ last_of z zs ∷ y ∷ front_of z zs
    go q = let a : get_or (z ∷ zs) m d ≡ last_of z zs = cc in let b : take m (z ∷ zs) ≡ front_of z zs = cc in rw (a, b) refl

removing : (xs : List Pair) (p d : Pair) (ys : List Pair) (m : ℕ) → length (xs ++ p ∷ ys) ≡ suc m →
    take m (set (xs ++ p ∷ ys) (length xs) (get_or (xs ++ p ∷ ys) m d)) ≡ xs ++ rotated ys
removing [] p d [] zero e = refl
removing [] p d [] (suc m) e = absurd (omega arith)
removing [] p d (y ∷ ys) zero e = absurd (omega arith)
removing [] p d (y ∷ ys) (suc m) e = removing_last y d ys m (omega arith)
removing (x ∷ xs) p d ys zero e = absurd (omega (arith, length-append xs (p ∷ ys)))
removing (x ∷ xs) p d ys (suc m) e = ap {B = List Pair} (λ r. x ∷ r) (removing xs p d ys m (omega arith))

pub swap_remove_at : (xs : List Pair) (p d : Pair) (ys : List Pair) → swap_remove (xs ++ p ∷ ys) (length xs) d ≡ xs ++ rotated ys
unfolding swap_remove
swap_remove_at xs p d ys = removing xs p d ys (length (xs ++ p ∷ ys) - 1) (omega (arith, length-append xs (p ∷ ys)))

-- ---- where an id stands

pub data Place (k : ℕ) (ps : List Pair) : Type 0 where
  missing : pair_index k ps ≡ None → find k ps ≡ None → Place k ps
  found : (xs : List Pair) (p : Pair) (ys : List Pair) → ps ≡ xs ++ p ∷ ys → p.names.id ≡ k → pair_index k ps ≡ Some (length xs) → find k ps ≡ Some p → Place k ps

pub place : (k : ℕ) (ps : List Pair) → Place k ps
unfolding pair_index find
place k [] = missing refl refl
place k (p ∷ ps) = go (eqb p.names.id k) (test p.names.id k) refl (place k ps)
  where
    go : (b : Bool) → Test p.names.id k b → eqb p.names.id k ≡ b → Place k ps → Place k (p ∷ ps)
    go true (same e) t l = found [] p ps refl e (rw t refl) (rw t refl)
    go false (other n) t (missing a b) = missing (rw (t, a) refl) (rw (t, b) refl)
    go false (other n) t (found xs q ys e i a b) =
        found (p ∷ xs) q ys (ap {B = List Pair} (λ r. p ∷ r) e) i (rw (t, a) refl) (rw (t, b) refl)
