-- One value of a record: what it reads to, from its fields. Assumes nothing.
use Rattle.std.specs.Prelude.{◌≡◌, refl, ℕ, zero, suc, ◌+◌, ◌≤◌, Bool, true, false, ◌&&◌, List, [], ◌∷◌, length, set, take, drop, None, Some, Option}
use Rattle.std.proofs.Common.{sym, ap, ◌∙◌, not-suc-le-zero, le_of_suc-le-suc, arith}
use Rattle.text.specs.Text.{Taken}
use Rattle.text.specs.Answers.{Stands}
use Rattle.text.specs.TextLaws.{expect_same, expect_not}
use Rattle.trace_rules.specs.Fields.{Kind, float, mark, rule, kind_fits, read_kind, plain, optional, setting, Fields, absent, zeros_for, unsaid, read_kinds, dash_read, end_read, dash_or, read_item, coefficient}
use Rattle.trace_lines.specs.Answers.{DashReadAt, FieldAt, ValueAt, ValueReadAt}
use Rattle.trace_lines.specs.declared.fields.Checked.{Checked}

pub and_true : (b : Bool) → (b && true) ≡ b
and_true true = refl
and_true false = refl

-- what a field reads to fits as the field does
fits_alone : {k : Kind} {xs : List ℕ} {at : ℕ} {f : Checked ℕ} → FieldAt k xs at f → f.fits ≡ (kind_fits k f.value && true)
fits_alone {k} {xs} {at} {f} r = r.fits ∙ sym (and_true (kind_fits k f.value))

-- a store past the end is none
pub set_past {ℓ} : {A : Type ℓ} (xs : List A) (n : ℕ) (v : A) → length xs ≤ n → set xs n v ≡ xs
set_past [] n v h = refl
set_past (x ∷ xs) zero v h = absurd (not-suc-le-zero h)
set_past {A = A} (x ∷ xs) (suc n) v h = ap (λ (r : List A). x ∷ r) (set_past xs n v (le_of_suc-le-suc h))

module _ (xs : List ℕ) (at : ℕ) where
  -- ---- a field alone
  pub plain_none : (k : Kind) → read_kind k (drop at xs) ≡ None → read_item (plain k) (drop at xs) ≡ None
  unfolding read_item read_kinds
  plain_none k e = rw e

  pub plain_read : (k : Kind) (f : Checked ℕ) → FieldAt k xs at f → ValueAt (read_item (plain k)) 1 xs at (record { value = f.value ∷ 0 ∷ 0 ∷ []; next = f.next; fits = f.fits })
  unfolding read_item read_kinds
  plain_read k f r = record { read = rw (r.read, ← fits_alone r); past = omega (arith, r.past); inside = r.inside }

  -- ---- a value that a dash may stand for
  pub dash_stands : (default : Fields) (ks : List Kind) (n : ℕ) (words : List ℕ) → DashReadAt xs at true → default.words ≡ take n words
      → ValueAt (dash_or default ks) n xs at (record { value = words; next = at + 2; fits = default.fits })
  dash_stands default ks n words d e = record { read = rw (d.0, ← e); past = omega arith; inside = d.1 }

  kinds_none : (default : Fields) (ks : List Kind) → dash_read (drop at xs) ≡ None → read_kinds ks (drop at xs) ≡ None → dash_or default ks (drop at xs) ≡ None
  kinds_none default ks d e = rw (d, e)

  pub one_none : (default : Fields) (k : Kind) → dash_read (drop at xs) ≡ None → read_kind k (drop at xs) ≡ None → dash_or default (k ∷ []) (drop at xs) ≡ None
  unfolding read_kinds
  one_none default k d e = kinds_none default (k ∷ []) d (rw e)

  pub one_read : (default : Fields) (k : Kind) (f : Checked ℕ) → dash_read (drop at xs) ≡ None → FieldAt k xs at f
      → ValueAt (dash_or default (k ∷ [])) 2 xs at (record { value = 1 ∷ f.value ∷ 0 ∷ []; next = f.next; fits = f.fits })
  unfolding read_kinds
  one_read default k f d r = record { read = rw (d, r.read, ← fits_alone r); past = omega (arith, r.past); inside = r.inside }

  -- ---- a coefficient and its rule
  pub no_coefficient : DashReadAt xs at true → ValueAt (read_item (optional coefficient)) 3 xs at (record { value = 0 ∷ 0 ∷ 0 ∷ []; next = at + 2; fits = true })
  unfolding read_item zeros_for
  no_coefficient d = dash_stands (absent coefficient) coefficient 3 (0 ∷ 0 ∷ 0 ∷ []) d refl

  pub first_none : dash_read (drop at xs) ≡ None → read_kind float (drop at xs) ≡ None → read_item (optional coefficient) (drop at xs) ≡ None
  unfolding read_item read_kinds
  first_none d e = kinds_none _ coefficient d (rw e)

  pub second_none : (f : Checked ℕ) → dash_read (drop at xs) ≡ None → FieldAt float xs at f → read_kind rule (drop f.next xs) ≡ None → read_item (optional coefficient) (drop at xs) ≡ None
  unfolding read_item read_kinds
  second_none f d r e = kinds_none _ coefficient d (rw (r.read, e))

  pub both_read : (f g : Checked ℕ) → dash_read (drop at xs) ≡ None → FieldAt float xs at f → FieldAt rule xs f.next g
      → ValueAt (read_item (optional coefficient)) 3 xs at (record { value = 1 ∷ f.value ∷ g.value ∷ []; next = g.next; fits = g.fits })
  unfolding read_item read_kinds kind_fits
  both_read f g d r q = record { read = rw (d, r.read, q.read, ← fits_alone q); past = omega (arith, r.past, q.past); inside = q.inside }

  -- ---- a setting
  -- the line ends before it
  pub end_stands : Stands xs at 10 → ValueAt (read_item setting) 2 xs at (record { value = 1 ∷ 0 ∷ 0 ∷ []; next = at; fits = true })
  unfolding read_item end_read
  end_stands h = record { read = rw (expect_same 10 (λ rest. Some (drop at xs)) xs at h.0 h.1); past = omega arith; inside = omega (arith, h.0) }

  reads_alike : (n : ℕ) (reads other : List ℕ → Option (Taken Fields)) → other (drop at xs) ≡ reads (drop at xs) → (r : Option (Checked (List ℕ))) → ValueReadAt reads n xs at r → ValueReadAt other n xs at r
  reads_alike n reads other e (Some x) h = record { read = e ∙ h.read; past = h.past; inside = h.inside }
  reads_alike n reads other e None h = e ∙ h

  -- it does not
  pub setting_read : (Stands xs at 10 → ⊥) → (r : Option (Checked (List ℕ))) → ValueReadAt (dash_or unsaid (mark ∷ [])) 2 xs at r → ValueReadAt (read_item setting) 2 xs at r
  unfolding read_item end_read
  setting_read h r a = reads_alike 2 (dash_or unsaid (mark ∷ [])) (read_item setting) (rw (expect_not 10 (λ rest. Some (drop at xs)) xs at h)) r a

-- ---- for the search, by function

pub ruleset plain_laws = (plain_none, plain_read)

pub ruleset optional_laws = (dash_stands, one_none, one_read)

pub ruleset coefficient_laws = (no_coefficient, first_none, second_none, both_read)

pub ruleset setting_laws = (end_stands, setting_read)
