-- A proposal's words as its lines come: a hook's answer, a manifold more, a point more. Assumes nothing.
use Rattle.std.specs.Prelude.{ℕ, suc, ◌+◌, ◌*◌, ◌≤◌, ◌<◌, ◌≡◌, refl, Bool, true, false, cond, ltb, leb, length, take, set}
use Rattle.std.proofs.Common.{arith, ◌∙◌, inr, leb-true, leb-false, le-leb, take_all, set-set}
use Rattle.std.proofs.Math.Path.{sym, ap}
use mathlib.Core.List.{List, [], ◌∷◌, ◌++◌, append_assoc, append-nil}
use Rattle.std.proofs.lemmas.Bool.{lt-leb}
use Rattle.std.proofs.Math.ListN.{length-append}
use Rattle.std.proofs.lemmas.List.{take-append-le}
use Rattle.rows.specs.Rows.{put, each}
use Rattle.rows.specs.Laws.{length_put, put_append, put_comm}
use Rattle.rows.specs.EachLaws.{each_append}
use Rattle.rules.specs.Limits.{pair_manifolds, proposed_points}
use Rattle.layout.specs.Proposal.{proposal_hook, proposal_count, proposal_manifolds, proposal_size, proposed_manifold_points, proposed_point_size}
use Rattle.manifold_records.specs.Written.{zeros}
use Rattle.manifold_records.specs.ListLaws.{length_zeros}
use Rattle.trace_rules.specs.Records.{Manifold, Proposal}
use Rattle.trace_rules.specs.Play.{counted, manifold_words, with_manifolds, proposal_words}
use Rattle.trace_steps.specs.Lines.{raised, manifold_place}

-- ---- counts
pub counted_few : (limit n : ℕ) → n ≤ limit → counted limit n ≡ n
counted_few limit n h = rw (le-leb n limit h)

pub counted_many : (limit n : ℕ) → limit < n → counted limit n ≡ limit + 1
counted_many limit n h = rw (lt-leb n limit h)

pub raised_few : (limit n : ℕ) → n ≤ limit → raised limit n ≡ n + 1
unfolding raised
raised_few limit n h = rw (le-leb n limit h)

pub raised_many : (limit n : ℕ) → limit < n → raised limit n ≡ n
unfolding raised
raised_many limit n h = rw (lt-leb n limit h)

pub raised_counted : (limit n : ℕ) → raised limit (counted limit n) ≡ counted limit (n + 1)
raised_counted limit n = go (leb n limit) (leb (n + 1) limit) refl refl
  where
    go : (a b : Bool) → leb n limit ≡ a → leb (n + 1) limit ≡ b → raised limit (counted limit n) ≡ counted limit (n + 1)
    go true true e f =
        let h = leb-true n limit e in
        let l = leb-true (n + 1) limit f in
        ap (raised limit) (counted_few limit n h) ∙ raised_few limit n h ∙ sym (counted_few limit (n + 1) l)
    go true false e f =
        let h = leb-true n limit e in
        let l = leb-false (n + 1) limit f in
        ap (raised limit) (counted_few limit n h) ∙ raised_few limit n h ∙ (let q : n + 1 ≡ limit + 1 = omega arith in q) ∙ sym (counted_many limit (n + 1) l)
    go false b e f =
        let h = leb-false n limit e in
        ap (raised limit) (counted_many limit n h) ∙ raised_many limit (limit + 1) (omega arith) ∙ sym (counted_many limit (n + 1) (omega arith))

-- ---- a row's first words
hook_anew : (xs : List ℕ) (h c k : ℕ) → put (put xs 0 (h ∷ c ∷ [])) proposal_hook (k ∷ []) ≡ put xs 0 (k ∷ c ∷ [])
unfolding put
hook_anew [] h c k = refl
hook_anew (x ∷ []) h c k = refl
hook_anew (x ∷ y ∷ xs) h c k = refl

count_anew : (xs : List ℕ) (h c k : ℕ) → put (put xs 0 (h ∷ c ∷ [])) proposal_count (k ∷ []) ≡ put xs 0 (h ∷ k ∷ [])
unfolding put
count_anew [] h c k = refl
count_anew (x ∷ []) h c k = refl
count_anew (x ∷ y ∷ xs) h c k = refl

-- the first of some words stored is stored anew
first_anew : (xs : List ℕ) (at c k : ℕ) (vs : List ℕ) → put (put xs at (c ∷ vs)) at (k ∷ []) ≡ put xs at (k ∷ vs)
unfolding put
first_anew xs at c k vs = put_comm (set xs at c) (suc at) vs at (k ∷ []) (inr (omega arith)) ∙ ap (λ (ys : List ℕ). put ys (suc at) vs) (set-set xs at c k)

-- ---- manifolds at their places
-- a manifold at its place, where there is one
abbrev pub placed : List ℕ → ℕ → Manifold → List ℕ
placed row k m = cond (ltb k pair_manifolds) (put row (manifold_place k) (manifold_words m)) row

manifolds_append : (row : List ℕ) (k : ℕ) (ms : List Manifold) (m : Manifold) → with_manifolds row k (ms ++ m ∷ []) ≡ placed (with_manifolds row k ms) (k + length ms) m
unfolding with_manifolds
manifolds_append row k [] m = ap (λ (j : ℕ). placed row j m) (let e : k ≡ k + 0 = omega arith in e)
manifolds_append row k (x ∷ ms) m =
    manifolds_append (placed row k x) (suc k) ms m ∙ ap (λ (j : ℕ). placed (with_manifolds (placed row k x) (suc k) ms) j m) (let e : suc k + length ms ≡ k + suc (length ms) = omega arith in e)

placed_behind : (row : List ℕ) (k : ℕ) (m : Manifold) (j : ℕ) (vs : List ℕ) → j + length vs ≤ proposal_manifolds → put (placed row k m) j vs ≡ placed (put row j vs) k m
placed_behind row k m j vs h = go (ltb k pair_manifolds)
  where
    go : (b : Bool) → put (cond b (put row (manifold_place k) (manifold_words m)) row) j vs ≡ cond b (put (put row j vs) (manifold_place k) (manifold_words m)) (put row j vs)
    go true = put_comm row (manifold_place k) (manifold_words m) j vs (inr (omega arith))
    go false = refl

-- what is stored before the manifolds is stored before them all
front_first : (row : List ℕ) (k : ℕ) (ms : List Manifold) (j : ℕ) (vs : List ℕ) → j + length vs ≤ proposal_manifolds → put (with_manifolds row k ms) j vs ≡ with_manifolds (put row j vs) k ms
unfolding with_manifolds
front_first row k [] j vs h = refl
front_first row k (m ∷ ms) j vs h = front_first (placed row k m) (suc k) ms j vs h ∙ ap (λ (ys : List ℕ). with_manifolds ys (suc k) ms) (placed_behind row k m j vs h)

-- ---- a proposal's words
abbrev pub proposal : ℕ → List Manifold → Proposal
proposal hook manifolds = record { hook = hook; manifolds = manifolds }

pub proposal_hook_lem : (h k : ℕ) (ms : List Manifold) → put (proposal_words (proposal h ms)) proposal_hook (k ∷ []) ≡ proposal_words (proposal k ms)
unfolding proposal_words
proposal_hook_lem h k ms =
    front_first (put (zeros proposal_size) 0 (h ∷ counted pair_manifolds (length ms) ∷ [])) 0 ms proposal_hook (k ∷ []) (omega arith)
    ∙ ap (λ (ys : List ℕ). with_manifolds ys 0 ms) (hook_anew (zeros proposal_size) h (counted pair_manifolds (length ms)) k)

-- one manifold more: the count, and the manifold at its place
pub proposal_more : (h : ℕ) (ms : List Manifold) (m : Manifold)
    → placed (put (proposal_words (proposal h ms)) proposal_count (counted pair_manifolds (length ms + 1) ∷ [])) (length ms) m ≡ proposal_words (proposal h (ms ++ m ∷ []))
unfolding proposal_words
proposal_more h ms m =
    let c = counted pair_manifolds (length ms) in
    let d = counted pair_manifolds (length ms + 1) in
    ap (λ (ys : List ℕ). placed ys (length ms) m)
    (front_first (put (zeros proposal_size) 0 (h ∷ c ∷ [])) 0 ms proposal_count (d ∷ []) (omega arith) ∙ ap (λ (ys : List ℕ). with_manifolds ys 0 ms) (count_anew (zeros proposal_size) h c d))
    ∙ ap (λ (j : ℕ). placed (with_manifolds (put (zeros proposal_size) 0 (h ∷ d ∷ [])) 0 ms) j m) (let e : length ms ≡ 0 + length ms = omega arith in e)
    ∙ sym (manifolds_append (put (zeros proposal_size) 0 (h ∷ d ∷ [])) 0 ms m)
    ∙ ap (λ (n : ℕ). with_manifolds (put (zeros proposal_size) 0 (h ∷ counted pair_manifolds n ∷ [])) 0 (ms ++ m ∷ [])) (sym (length-append ms (m ∷ [])))

-- as many as the layout has
length_manifolds : (row : List ℕ) (k : ℕ) (ms : List Manifold) → length (with_manifolds row k ms) ≡ length row
unfolding with_manifolds
length_manifolds row k [] = refl
length_manifolds row k (m ∷ ms) = length_manifolds (placed row k m) (suc k) ms ∙ go (ltb k pair_manifolds)
  where
    go : (b : Bool) → length (cond b (put row (manifold_place k) (manifold_words m)) row) ≡ length row
    go true = length_put row (manifold_place k) (manifold_words m)
    go false = refl

pub length_proposal : (p : Proposal) → length (proposal_words p) ≡ proposal_size
unfolding proposal_words
length_proposal p =
    length_manifolds (put (zeros proposal_size) 0 (p.hook ∷ counted pair_manifolds (length p.manifolds) ∷ [])) 0 p.manifolds
    ∙ length_put (zeros proposal_size) 0 (p.hook ∷ counted pair_manifolds (length p.manifolds) ∷ []) ∙ length_zeros proposal_size

-- the words before the last manifold
abbrev pub before_last : ℕ → List Manifold → List ℕ
before_last h ms = with_manifolds (put (zeros proposal_size) 0 (h ∷ counted pair_manifolds (length ms + 1) ∷ [])) 0 ms

pub last_apart : (h : ℕ) (ms : List Manifold) (m : Manifold) → proposal_words (proposal h (ms ++ m ∷ [])) ≡ placed (before_last h ms) (length ms) m
unfolding proposal_words
last_apart h ms m =
    ap (λ (n : ℕ). with_manifolds (put (zeros proposal_size) 0 (h ∷ counted pair_manifolds n ∷ [])) 0 (ms ++ m ∷ [])) (length-append ms (m ∷ []))
    ∙ manifolds_append (put (zeros proposal_size) 0 (h ∷ counted pair_manifolds (length ms + 1) ∷ [])) 0 ms m
    ∙ ap (λ (j : ℕ). placed (before_last h ms) j m) (let e : 0 + length ms ≡ length ms = omega arith in e)

-- ---- a point more
abbrev pub pointed : Manifold → List ℕ → Manifold
pointed m p = record { normal = m.normal; points = m.points ++ p ∷ [] }

abbrev same : List ℕ → List ℕ
same p = p

module _ (row : List ℕ) (at : ℕ) (m : Manifold) (p : List ℕ) where
  abbrev more : ℕ
  more = counted proposed_points (length m.points + 1)

  pub counted_more : counted proposed_points (length (m.points ++ p ∷ [])) ≡ more
  counted_more = ap (counted proposed_points) (length-append m.points (p ∷ []))

  -- past the limit only the count changes
  pub point_past : proposed_points ≤ length m.points → put (put row at (manifold_words m)) at (more ∷ []) ≡ put row at (manifold_words (pointed m p))
  unfolding manifold_words
  point_past h =
      first_anew row at (counted proposed_points (length m.points)) more (m.normal ++ each same (take proposed_points m.points))
      ∙ sym (λ i. put row at (counted_more i ∷ m.normal ++ each same (take-append-le proposed_points m.points (p ∷ []) h i)))

  -- below it the point is stored behind the others
  module _ (few : length m.points < proposed_points) (three : length m.normal ≡ 3) (sizes : length (each same m.points) ≡ length m.points * proposed_point_size) where
    abbrev front : List ℕ
    front = m.normal ++ each same m.points

    words_now : manifold_words m ≡ counted proposed_points (length m.points) ∷ front
    unfolding manifold_words
    words_now = ap (λ (ps : List (List ℕ)). counted proposed_points (length m.points) ∷ m.normal ++ each same ps) (take_all proposed_points m.points (omega arith))

    words_then : manifold_words (pointed m p) ≡ (more ∷ front) ++ p
    unfolding manifold_words
    words_then =
        (λ i. counted_more i ∷ m.normal ++ each same (take_all proposed_points (m.points ++ p ∷ []) (omega (arith, length-append m.points (p ∷ []))) i))
        ∙ ap (λ (ws : List ℕ). more ∷ m.normal ++ ws) (each_append same m.points (p ∷ []) ∙ ap (λ (ws : List ℕ). each same m.points ++ ws) (append-nil p))
        ∙ ap (λ (ws : List ℕ). more ∷ ws) (sym (append_assoc m.normal (each same m.points) p))

    pub point_room : put (put (put row at (manifold_words m)) at (more ∷ [])) (at + proposed_manifold_points + length m.points * proposed_point_size) p ≡ put row at (manifold_words (pointed m p))
    point_room =
        let place : at + proposed_manifold_points + length m.points * proposed_point_size ≡ at + length (more ∷ front) = omega (arith, length-append m.normal (each same m.points)) in
        (λ i. put (put (put row at (words_now i)) at (more ∷ [])) (place i) p)
        ∙ ap (λ (ys : List ℕ). put ys (at + length (more ∷ front)) p) (first_anew row at (counted proposed_points (length m.points)) more front)
        ∙ sym (put_append row at (more ∷ front) p)
        ∙ ap (put row at) (sym words_then)
