-- Whether a contact's record is in range depends on its own words alone, and not on its place in the list. Assumes nothing.
use Rattle.std.specs.Prelude.{ℕ, ◌+◌, ◌*◌, ◌<◌, ◌≡◌, ◌≢◌, Bool, true, false, cond, ◌&&◌, List, eqb}
use Rattle.std.proofs.Common.{arith, ◌∙◌, leb-true}
use Rattle.std.proofs.Math.Path.{refl, ap}
use Rattle.std.proofs.Math.Dec.{ltb, leb}
use Rattle.rules.specs.Limits.{stored_points, pair_manifolds, colliders, bodies}
use Rattle.rules.specs.Numbers.{every}
use Rattle.rule_laws.specs.NumberLaws.{every_same}
use Rattle.words.specs.Words.{word_at}
use Rattle.layout.specs.Contact.{contact_cache, contact_edge_flags, contact_manifolds, contact_pair_index, contact_size, marks_size}
use Rattle.layout.specs.Manifold.{manifold_size}
use Rattle.contact_range.specs.Range.{is_mark, optional_fits, names_fit, marks_fit, manifolds_fit, contact_fits}

module _ (g : List ℕ) (a : ℕ) (h : List ℕ) (b : ℕ) (same : (o : ℕ) → o < contact_size → o ≢ contact_pair_index → word_at h (b + o) ≡ word_at g (a + o)) where
  -- a word further on
  at : (n k : ℕ) → n + k < contact_size → n + k ≢ contact_pair_index → word_at h (b + n + k) ≡ word_at g (a + n + k)
  at n k l d =
      ap (word_at h) (let e : b + n + k ≡ b + (n + k) = omega arith in e) ∙ same (n + k) l d ∙ ap (word_at g) (let e : a + (n + k) ≡ a + n + k = omega arith in e)

  first_word : word_at h b ≡ word_at g a
  first_word = ap (word_at h) (let e : b ≡ b + 0 = omega arith in e) ∙ same 0 (omega arith) (omega arith) ∙ ap (word_at g) (let e : a + 0 ≡ a = omega arith in e)

  optional_same : (limit n : ℕ) → n + 1 < contact_pair_index → optional_fits limit h (b + n) ≡ optional_fits limit g (a + n)
  optional_same limit n l =
      ap (λ (w : ℕ). is_mark w && cond (eqb w 1) (ltb (word_at h (b + n + 1)) limit) true) (same n (omega arith) (omega arith))
      ∙ ap (λ (w : ℕ). is_mark (word_at g (a + n)) && cond (eqb (word_at g (a + n)) 1) (ltb w limit) true) (at n 1 (omega arith) (omega arith))

  names_same : names_fit h b ≡ names_fit g a
  unfolding names_fit
  names_same =
      ap (λ (w : ℕ). (ltb w colliders && ltb (word_at h (b + 1)) colliders) && (optional_fits bodies h (b + 2) && optional_fits bodies h (b + 4))) first_word
      ∙ ap (λ (w : ℕ). (ltb (word_at g a) colliders && ltb w colliders) && (optional_fits bodies h (b + 2) && optional_fits bodies h (b + 4))) (same 1 (omega arith) (omega arith))
      ∙ ap (λ (t : Bool). (ltb (word_at g a) colliders && ltb (word_at g (a + 1)) colliders) && (t && optional_fits bodies h (b + 4))) (optional_same bodies 2 (omega arith))
      ∙ ap (λ (t : Bool). (ltb (word_at g a) colliders && ltb (word_at g (a + 1)) colliders) && (optional_fits bodies g (a + 2) && t)) (optional_same bodies 4 (omega arith))

  marks_same : marks_fit h b ≡ marks_fit g a
  unfolding marks_fit
  marks_same =
      ap (λ (t : Bool). t && is_mark (word_at h (b + contact_cache)))
      (every_same (λ k. is_mark (word_at h (b + contact_edge_flags + k))) (λ k. is_mark (word_at g (a + contact_edge_flags + k))) marks_size (λ k l. ap is_mark (at contact_edge_flags k (omega arith) (omega arith))))
      ∙ ap (λ (w : ℕ). every (λ k. is_mark (word_at g (a + contact_edge_flags + k))) marks_size && is_mark w) (same contact_cache (omega arith) (omega arith))

  abbrev counts : List ℕ → ℕ → ℕ → Bool
  counts xs from n = every (λ k. leb (word_at xs (from + contact_manifolds + 1 + k * manifold_size)) stored_points) n

  counted : (n : ℕ) (t : Bool) → leb n pair_manifolds ≡ t → t && counts h b n ≡ t && counts g a n
  counted n false e = refl
  counted n true e =
      let few = leb-true n pair_manifolds e in
      every_same (λ k. leb (word_at h (b + contact_manifolds + 1 + k * manifold_size)) stored_points) (λ k. leb (word_at g (a + contact_manifolds + 1 + k * manifold_size)) stored_points) n
      (λ k l. ap (λ (w : ℕ). leb w stored_points)
      (ap (word_at h) (let z : b + contact_manifolds + 1 + k * manifold_size ≡ b + contact_manifolds + (1 + k * manifold_size) = omega arith in z) ∙ at contact_manifolds (1 + k * manifold_size) (omega arith) (omega arith)
      ∙ ap (word_at g) (let z : a + contact_manifolds + (1 + k * manifold_size) ≡ a + contact_manifolds + 1 + k * manifold_size = omega arith in z)))

  manifolds_same : manifolds_fit h b ≡ manifolds_fit g a
  unfolding manifolds_fit
  manifolds_same =
      ap (λ (n : ℕ). leb n pair_manifolds && counts h b n) (same contact_manifolds (omega arith) (omega arith))
      ∙ counted (word_at g (a + contact_manifolds)) (leb (word_at g (a + contact_manifolds)) pair_manifolds) refl

  pub fits_same : contact_fits h b ≡ contact_fits g a
  unfolding contact_fits
  fits_same =
      ap (λ (t : Bool). t && (marks_fit h b && manifolds_fit h b)) names_same ∙ ap (λ (t : Bool). names_fit g a && (t && manifolds_fit h b)) marks_same
      ∙ ap (λ (t : Bool). names_fit g a && (marks_fit g a && t)) manifolds_same
