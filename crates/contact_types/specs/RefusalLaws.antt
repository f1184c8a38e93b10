-- A refusal's number tells the refusal, and is not 0; what is told by a view that can be undone. Assumes nothing.
use Rattle.std.specs.Prelude.{ℕ, ◌≡◌, refl, ◌⊎◌, Bool, false, cond, eqb}
use Rattle.std.proofs.Common.{sym, ap, ◌∙◌, inl, inr}
use Rattle.contact_types.specs.Refusals.{number_of}
use Rattle.contact_types.specs.declared.refusal.Refusal.{Refusal}
use Rattle.contact_types.specs.declared.refusal.Refusal.TheVariants.{WrongLength, OutOfRange, SameCollider, PairExists, GraphFull, ProposalTooLarge, InvalidShares, TooFewPoints, NoContact}

-- ---- two values with one view, where the view can be undone
pub same_by : {A B : Type 0} (view : A → B) (undone : B → A) → ((a : A) → undone (view a) ≡ a) → {a b : A} {v : B} → view a ≡ v → view b ≡ v → b ≡ a
same_by view undone back {a} {b} p q = sym (back b) ∙ ap undone (q ∙ sym p) ∙ back a

-- ---- numbers
-- the refusal of a number
abbrev pub refusal_for : ℕ → Refusal
refusal_for n =
    cond (eqb n 1) WrongLength
    (cond (eqb n 2) OutOfRange
    (cond (eqb n 3) SameCollider
    (cond (eqb n 4) PairExists
    (cond (eqb n 5) GraphFull
    (cond (eqb n 6) ProposalTooLarge
    (cond (eqb n 7) InvalidShares
    (cond (eqb n 8) TooFewPoints NoContact)))))))

pub refusal_for_lem : (r : Refusal) → refusal_for (number_of r) ≡ r
refusal_for_lem WrongLength = refl
refusal_for_lem OutOfRange = refl
refusal_for_lem SameCollider = refl
refusal_for_lem PairExists = refl
refusal_for_lem GraphFull = refl
refusal_for_lem ProposalTooLarge = refl
refusal_for_lem InvalidShares = refl
refusal_for_lem TooFewPoints = refl
refusal_for_lem NoContact = refl

pub number_injective : {r s : Refusal} → number_of r ≡ number_of s → r ≡ s
number_injective {r} {s} e = same_by number_of refusal_for refusal_for_lem {a = s} {b = r} refl e

-- no refusal has the number 0
pub some_number : (r : Refusal) → eqb (number_of r) 0 ≡ false
some_number WrongLength = refl
some_number OutOfRange = refl
some_number SameCollider = refl
some_number PairExists = refl
some_number GraphFull = refl
some_number ProposalTooLarge = refl
some_number InvalidShares = refl
some_number TooFewPoints = refl
some_number NoContact = refl

-- ---- 0, or a refusal's number
abbrev pub Numbered : ℕ → Type 0
Numbered n = (n ≡ 0) ⊎ ((r : Refusal) × (number_of r ≡ n))

-- an answer that is by cases of such a number: there is one with that view, done or refused
pub answered_by : {A B : Type 0} (view : A → B) (told : ℕ → B) (done : A) (refused : Refusal → A) (said : B) → view done ≡ said → ((r : Refusal) → view (refused r) ≡ told (number_of r))
    → (n : ℕ) → Numbered n → (a : A) × (view a ≡ cond (eqb n 0) said (told n))
answered_by view told done refused said d f n (inl z) = (done, d ∙ sym (ap (λ (m : ℕ). cond (eqb m 0) said (told m)) z))
answered_by view told done refused said d f n (inr (r, e)) = (
  refused r,
  f r ∙ sym (ap (λ (b : Bool). cond b said (told (number_of r))) (some_number r)) ∙ ap (λ (m : ℕ). cond (eqb m 0) said (told m)) e,
)
