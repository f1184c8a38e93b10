-- The struct for the numbers of the points that stay holds them and no more, so the promise of `prune` has one answer. Assumes nothing.
use Rattle.std.specs.Prelude.{ℕ, ◌+◌, ◌≤◌, ◌≡◌, refl, Bool, true, false, cond, not, List, [], ◌∷◌, eqb, ltb, length, Err, Ok, Result}
use Rattle.std.proofs.Common.{arith, sym, ap, subst, ◌∙◌}
use Rattle.math.specs.declared.vec.Vec3.{Vec3}
use Rattle.layout.specs.Prune.{prune_points_length}
use Rattle.rules.specs.Limits.{proposed_points, stored_points}
use Rattle.rules.specs.Pruning as rules
use Rattle.rule_laws.specs.PruningLaws.{kept_four}
use Rattle.contact_types.specs.RefusalLaws.{same_by, refusal_for, refusal_for_lem}
use Rattle.contact_types.specs.Prune.{prune_point_at, Answer, refused, keeps, prune_answer, in_struct, answer_of, Pruned}
use Rattle.contact_types.specs.Pruned.{kept_struct, kept_of}
use Rattle.contact_types.specs.declared.pruning.KeptPoints.{KeptPoints}
use Rattle.contact_types.specs.declared.refusal.Refusal.TheVariants.{WrongLength, ProposalTooLarge, TooFewPoints}
use Rattle.contact_types.specs.declared.refusal.Refusal.{Refusal}

-- ---- the struct holds the numbers
pub struct_numbers : (ks : List ℕ) → length ks ≤ 4 → kept_of (kept_struct ks) ≡ ks
struct_numbers [] h = refl
struct_numbers (a ∷ []) h = refl
struct_numbers (a ∷ b ∷ []) h = refl
struct_numbers (a ∷ b ∷ c ∷ []) h = refl
struct_numbers (a ∷ b ∷ c ∷ d ∷ []) h = refl
struct_numbers (a ∷ b ∷ c ∷ d ∷ e ∷ ks) h = absurd (omega arith)

pub kept_numbers : (normal : Vec3) (count : ℕ) (point : ℕ → rules.PrunePoint) {k : KeptPoints} → k ≡ kept_struct (rules.kept normal count point) → kept_of k ≡ rules.kept normal count point
kept_numbers normal count point e = ap kept_of e ∙ struct_numbers (rules.kept normal count point) (kept_four normal count point)

pub kept_most : (normal : Vec3) (count : ℕ) (point : ℕ → rules.PrunePoint) {k : KeptPoints} → k ≡ kept_struct (rules.kept normal count point) → k.count ≤ 4
kept_most normal count point e = subst (λ (n : ℕ). n ≤ 4) (sym (ap (λ (k : KeptPoints). k.count) e)) (kept_four normal count point)

-- ---- the numbers in an answer of the code
abbrev pub numbers_of : Answer KeptPoints → Answer (List ℕ)
numbers_of (refused n) = refused n
numbers_of (keeps k) = keeps (kept_of k)

abbrev pub plain_answer : Result KeptPoints Refusal → Answer (List ℕ)
plain_answer r = numbers_of (answer_of r)

struct_answer : (normal : Vec3) (words : List ℕ) (count : ℕ) → numbers_of (in_struct (prune_answer normal words count)) ≡ prune_answer normal words count
unfolding prune_answer
struct_answer normal words count = tests (not (eqb (length words) prune_points_length)) (ltb count (stored_points + 1)) (ltb proposed_points count)
  where
    tests : (a b c : Bool) → numbers_of (in_struct (cond a (refused 1) (cond b (refused 8) (cond c (refused 6) (keeps (rules.kept normal count (prune_point_at words)))))))
        ≡ cond a (refused 1) (cond b (refused 8) (cond c (refused 6) (keeps (rules.kept normal count (prune_point_at words)))))
    tests true b c = refl
    tests false true c = refl
    tests false false true = refl
    tests false false false = ap keeps (struct_numbers (rules.kept normal count (prune_point_at words)) (kept_four normal count (prune_point_at words)))

pub pruned_plain : {normal : Vec3} {words : List ℕ} {count : ℕ} {r : Result KeptPoints Refusal} → Pruned normal words count r → plain_answer r ≡ prune_answer normal words count
pruned_plain {normal} {words} {count} p = ap numbers_of p.answer ∙ struct_answer normal words count

-- ---- one answer, and no other
abbrev prune_of : Answer KeptPoints → Result KeptPoints Refusal
prune_of (refused n) = Err (refusal_for n)
prune_of (keeps k) = Ok k

prune_of_lem : (r : Result KeptPoints Refusal) → prune_of (answer_of r) ≡ r
prune_of_lem (Ok k) = refl
prune_of_lem (Err r) = ap Err (refusal_for_lem r)

pub prune_determined : (normal : Vec3) (words : List ℕ) (count : ℕ) {r r' : Result KeptPoints Refusal} → Pruned normal words count r → Pruned normal words count r' → r' ≡ r
prune_determined normal words count p q = same_by answer_of prune_of prune_of_lem p.answer q.answer

pub prune_answered : (normal : Vec3) (words : List ℕ) (count : ℕ) → (r : Result KeptPoints Refusal) × Pruned normal words count r
unfolding prune_answer
prune_answered normal words count =
    let a = tests (not (eqb (length words) prune_points_length)) (ltb count (stored_points + 1)) (ltb proposed_points count) in
    (a.0, record { answer = a.1 })
  where
    tests : (a b c : Bool) → (r : Result KeptPoints Refusal) × (answer_of r ≡ in_struct (cond a (refused 1) (cond b (refused 8) (cond c (refused 6) (keeps (rules.kept normal count (prune_point_at words)))))))
    tests true b c = (Err WrongLength, refl)
    tests false true c = (Err TooFewPoints, refl)
    tests false false true = (Err ProposalTooLarge, refl)
    tests false false false = (Ok (kept_struct (rules.kept normal count (prune_point_at words))), refl)
