-- Stores of one part of a contact's record: the place in the list, the edge's marks, the pair's marks. Assumes nothing.
use Rattle.std.specs.Prelude.{◌≡◌, ℕ, ◌+◌, ◌≤◌, List, [], ◌∷◌, ◌++◌, length}
use Rattle.std.proofs.Common.{inl, inr, arith, length-append}
use Rattle.std.specs.Float.{binary32}
use Rattle.std.specs.Float.Ieee.{of_bits}
use Rattle.rows.specs.Rows.{put}
use Rattle.rows.specs.Laws.{get_d_put_apart}
use Rattle.rules.specs.Records.{EdgeFlags, PairFlags, Pair}
use Rattle.words.specs.Words.{word_at}
use Rattle.manifold_records.specs.Counts.{Counted}
use Rattle.contact_records.specs.ApartLaws.{names_same, edge_same, flags_same, manifolds_same, cache_same}
use Rattle.contact_records.proofs.BackLaws.{edge_held, flags_held}
use Rattle.contact_records.specs.HeldLaws.{Holds, put_holds, holds_left, holds_right, first_held, same_put}
use Rattle.layout.specs.Contact.{contact_edge_flags, contact_flags, contact_manifolds, contact_pair_index, contact_size}
use Rattle.contact_records.specs.LengthLaws.{length_optional, length_edge, length_flags, length_contact}
use Rattle.contact_records.specs.Recorded.{pair_at, int_of}
use Rattle.contact_records.specs.Written.{optional_words, names_words, edge_words, flags_words, state_words, contact_words}

-- ---- the place in the list is no part of the pair

pub pair_moved : (g : List ℕ) (at id index : ℕ) → Counted g (at + contact_manifolds) → pair_at (put g (at + contact_pair_index) (index ∷ [])) at id ≡ pair_at g at id
unfolding pair_at
pair_moved g at id index c =
    let ws : List ℕ = index ∷ [] in
    λ i. record {
      names = names_same id (same_put g (at + 6) ws at 6 (inl (omega arith))) i;
      edge = edge_same (same_put g (at + 6) ws (at + 7) 2 (inr (omega arith))) i;
      flags = flags_same (same_put g (at + 6) ws (at + 9) 9 (inr (omega arith))) i;
      manifolds = manifolds_same c (same_put g (at + 6) ws (at + 36) 487 (inr (omega arith))) i;
      count_change = int_of (get_d_put_apart g (at + 6) ws (at + 18) 0 (inr (omega arith)) i);
      speculative = of_bits binary32 (get_d_put_apart g (at + 6) ws (at + 19) 0 (inr (omega arith)) i);
      cache = cache_same (same_put g (at + 6) ws (at + 20) 16 (inr (omega arith))) i;
    }

-- what a whole record says of it
pub index_held : {xs : List ℕ} (at index : ℕ) (p : Pair) → Holds xs at (contact_words index p) → word_at xs (at + contact_pair_index) ≡ index
unfolding contact_words names_words
index_held {xs} at index p h =
    let a : List ℕ = p.names.collider1 ∷ p.names.collider2 ∷ optional_words p.names.body1 ++ optional_words p.names.body2 in
    let n : length a ≡ 6 = simp length-append (omega (arith, length_optional p.names.body1, length_optional p.names.body2)) in
    first_held (holds_right a (index ∷ []) 6 n (holds_left (a ++ index ∷ []) (edge_words p.edge) (holds_left (a ++ index ∷ [] ++ edge_words p.edge) (state_words p) h)))

pub index_back : (g : List ℕ) (at index : ℕ) (p : Pair) → at + contact_size ≤ length g → word_at (put g at (contact_words index p)) (at + contact_pair_index) ≡ index
index_back g at index p h = index_held at index p (put_holds g at (contact_words index p) (rw (length_contact index p) h))

-- ---- the edge's marks

-- a pair with other marks of its edge
abbrev pub with_edge : Pair → EdgeFlags → Pair
with_edge p e = record { names = p.names; edge = e; flags = p.flags; manifolds = p.manifolds; count_change = p.count_change; speculative = p.speculative; cache = p.cache }

pub edge_back : (g : List ℕ) (at id : ℕ) (e : EdgeFlags) → Counted g (at + contact_manifolds) → at + 9 ≤ length g
    → pair_at (put g (at + contact_edge_flags) (edge_words e)) at id ≡ with_edge (pair_at g at id) e
unfolding pair_at
edge_back g at id e c h =
    let ws = edge_words e in
    let n = length_edge e in
    λ i. record {
      names = names_same id (same_put g (at + 7) ws at 6 (inl (omega arith))) i;
      edge = edge_held e (put_holds g (at + 7) ws (omega arith)) i;
      flags = flags_same (same_put g (at + 7) ws (at + 9) 9 (inr (omega arith))) i;
      manifolds = manifolds_same c (same_put g (at + 7) ws (at + 36) 487 (inr (omega arith))) i;
      count_change = int_of (get_d_put_apart g (at + 7) ws (at + 18) 0 (inr (omega arith)) i);
      speculative = of_bits binary32 (get_d_put_apart g (at + 7) ws (at + 19) 0 (inr (omega arith)) i);
      cache = cache_same (same_put g (at + 7) ws (at + 20) 16 (inr (omega arith))) i;
    }

-- ---- the pair's marks

abbrev pub with_flags : Pair → PairFlags → Pair
with_flags p f = record { names = p.names; edge = p.edge; flags = f; manifolds = p.manifolds; count_change = p.count_change; speculative = p.speculative; cache = p.cache }

pub flags_back : (g : List ℕ) (at id : ℕ) (f : PairFlags) → Counted g (at + contact_manifolds) → at + 18 ≤ length g
    → pair_at (put g (at + contact_flags) (flags_words f)) at id ≡ with_flags (pair_at g at id) f
unfolding pair_at
flags_back g at id f c h =
    let ws = flags_words f in
    let n = length_flags f in
    λ i. record {
      names = names_same id (same_put g (at + 9) ws at 6 (inl (omega arith))) i;
      edge = edge_same (same_put g (at + 9) ws (at + 7) 2 (inl (omega arith))) i;
      flags = flags_held f (put_holds g (at + 9) ws (omega arith)) i;
      manifolds = manifolds_same c (same_put g (at + 9) ws (at + 36) 487 (inr (omega arith))) i;
      count_change = int_of (get_d_put_apart g (at + 9) ws (at + 18) 0 (inr (omega arith)) i);
      speculative = of_bits binary32 (get_d_put_apart g (at + 9) ws (at + 19) 0 (inr (omega arith)) i);
      cache = cache_same (same_put g (at + 9) ws (at + 20) 16 (inr (omega arith))) i;
    }
