-- The verdict from a record's words, test by test. Assumes nothing.
use Rattle.std.specs.Prelude.{ℕ, zero, suc, ◌-◌, ◌^◌, ◌≡◌, refl, Bool, true, false, cond, ◌&&◌, List, eqb, ltb, pos, negsuc}
use Rattle.std.proofs.Common.{arith, ap, ◌∙◌, ne_eqb}
use Rattle.std.proofs.Math.Path.{sym}
use Rattle.std.proofs.Math.Bool.{not}
use Rattle.rules.specs.Records.{PairFlags}
use Rattle.rules.specs.Update.{non_zero}
use Rattle.rules.specs.Status.{pick, verdict}
use Rattle.words.specs.Words.{word_at}
use Rattle.contact_records.specs.Recorded.{int_of, flags_at, pair_at}
use Rattle.layout.specs.Contact.{contact_count_change, contact_flags}

-- a count change is 0 where its word is
non_zero_word : (w : ℕ) → non_zero (int_of w) ≡ not (eqb w 0)
non_zero_word zero = refl
non_zero_word (suc n) = go (ltb (suc n) (2 ^ 31)) ∙ sym (ap not (ne_eqb (suc n) 0 (λ e. omega arith)))
  where
    go : (b : Bool) → non_zero (cond b (pos (suc n)) (negsuc (2 ^ 32 - 1 - suc n))) ≡ true
    go true = refl
    go false = refl

module _ (w : List ℕ) (f : PairFlags) (e : f ≡ flags_at w contact_flags) (change : ℕ) (c : change ≡ word_at w contact_count_change) where
  abbrev touched : Bool
  touched = f.touching && f.started_generating

  abbrev counted : Bool
  counted = f.touching && (f.generate_constraints && not (eqb change 0))

  tests : (id : ℕ) → pick f.disjoint_aabb f.started_touching f.stopped_touching touched counted ≡ verdict (pair_at w 0 id)
  unfolding pair_at
  tests id =
      (λ i. pick (e i).disjoint_aabb (e i).started_touching (e i).stopped_touching ((e i).touching && (e i).started_generating)
      ((e i).touching && ((e i).generate_constraints && (ap (λ (n : ℕ). not (eqb n 0)) c ∙ sym (non_zero_word (word_at w contact_count_change))) i)))

  -- what the five tests give
  pub picked : (id : ℕ) {a b d t u : Bool} → f.disjoint_aabb ≡ a → f.started_touching ≡ b → f.stopped_touching ≡ d → touched ≡ t → counted ≡ u → pick a b d t u ≡ verdict (pair_at w 0 id)
  picked id p q r s t = sym (λ i. pick (p i) (q i) (r i) (s i) (t i)) ∙ tests id
