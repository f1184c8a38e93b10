-- A field at a place of a text. Assumes nothing.
use Rattle.std.specs.Prelude.{◌≡◌, refl, ℕ, ◌+◌, Bool, true, false, List, drop, None, Some}
use Rattle.std.proofs.Common.{sym, ap, ◌∙◌, arith}
use Rattle.text.specs.Text.{expect, word, decimal}
use Rattle.text.specs.Answers.{Stands, ByteIs, ByteRead, WordRead, NumberRead}
use Rattle.text.specs.declared.reader.Number as found
use Rattle.text.specs.TextLaws.{expect_same, expect_read, expect_not}
use Rattle.trace_rules.specs.Fields.{Kind, float, number, collider, body, mark, rule, kind_fits, read_kind, dash, dash_read}
use Rattle.trace_lines.specs.declared.shapes.Kind as coded
use Rattle.trace_lines.specs.declared.shapes.Kind.TheVariants.{Float, Number, Collider, Body, Mark, Rule}
use Rattle.trace_lines.specs.Items.{kind_of}
use Rattle.trace_lines.specs.Answers.{FieldAt, DashReadAt}

-- ---- the two forms of a field

-- no other of the code's kinds is a float
pub float_only : (k : coded.Kind) → (k ≡ Float → ⊥) → kind_of k ≡ float → ⊥
float_only Float h e = h refl
float_only Number h e = let z : ◌≡◌ {A = ℕ} 0 1 = cc in omega arith
float_only Collider h e = let z : ◌≡◌ {A = ℕ} 0 1 = cc in omega arith
float_only Body h e = let z : ◌≡◌ {A = ℕ} 0 1 = cc in omega arith
float_only Mark h e = let z : ◌≡◌ {A = ℕ} 0 1 = cc in omega arith
float_only Rule h e = let z : ◌≡◌ {A = ℕ} 0 1 = cc in omega arith

kind_decimal : (k : Kind) (xs : List ℕ) → (k ≡ float → ⊥) → read_kind k xs ≡ expect 9 decimal xs
unfolding read_kind
kind_decimal float xs h = absurd (h refl)
kind_decimal number xs h = refl
kind_decimal collider xs h = refl
kind_decimal body xs h = refl
kind_decimal mark xs h = refl
kind_decimal rule xs h = refl

module _ (k : Kind) (xs : List ℕ) (at : ℕ) where
  pub no_tab : (Stands xs at 9 → ⊥) → read_kind k (drop at xs) ≡ None
  unfolding read_kind
  no_tab h = by_kind k
    where
      by_kind : (k : Kind) → read_kind k (drop at xs) ≡ None
      by_kind float = expect_not 9 word xs at h
      by_kind number = expect_not 9 decimal xs at h
      by_kind collider = expect_not 9 decimal xs at h
      by_kind body = expect_not 9 decimal xs at h
      by_kind mark = expect_not 9 decimal xs at h
      by_kind rule = expect_not 9 decimal xs at h

  module _ (start : ℕ) (tab : ByteRead xs at 9 (Some start)) where
    pub no_float : k ≡ float → word (drop start xs) ≡ None → read_kind k (drop at xs) ≡ None
    unfolding read_kind
    no_float e w = rw e (expect_read 9 word xs at start tab ∙ w)

    pub float_read : (v : ℕ) → k ≡ float → WordRead xs start (Some v) → FieldAt k xs at (record { value = v; next = start + 8; fits = true })
    unfolding read_kind kind_fits
    float_read v e w =
        record { read = rw e (expect_read 9 word xs at start tab ∙ w.read); fits = sym (ap (λ (k : Kind). kind_fits k v) e); past = omega (arith, tab.1); inside = w.inside }

    pub no_decimal : (k ≡ float → ⊥) → decimal (drop start xs) ≡ None → read_kind k (drop at xs) ≡ None
    no_decimal h w = kind_decimal k (drop at xs) h ∙ expect_read 9 decimal xs at start tab ∙ w

    pub decimal_read : (n : found.Number) (fits : Bool) → (k ≡ float → ⊥) → NumberRead xs start (Some n) → fits ≡ kind_fits k n.value
        → FieldAt k xs at (record { value = n.value; next = n.next; fits = fits })
    decimal_read n fits h w f =
        record { read = kind_decimal k (drop at xs) h ∙ expect_read 9 decimal xs at start tab ∙ w.read; fits = f; past = omega (arith, tab.1, w.inside.0); inside = w.inside.1 }

-- ---- a dash

pub no_dash_tab : (xs : List ℕ) (at : ℕ) → (Stands xs at 9 → ⊥) → dash_read (drop at xs) ≡ None
unfolding dash_read
no_dash_tab xs at h = expect_not 9 (expect dash Some) xs at h

pub no_dash : (xs : List ℕ) (at : ℕ) → Stands xs at 9 → (Stands xs (at + 1) 45 → ⊥) → dash_read (drop at xs) ≡ None
unfolding dash_read
no_dash xs at t h = expect_same 9 (expect dash Some) xs at t.0 t.1 ∙ expect_not 45 Some xs (at + 1) h

pub dash_read_lem : (xs : List ℕ) (at : ℕ) → Stands xs at 9 → Stands xs (at + 1) 45 → DashReadAt xs at true
unfolding dash_read
dash_read_lem xs at t d =
    let e : at + 1 + 1 ≡ at + 2 = omega arith in
    (expect_same 9 (expect dash Some) xs at t.0 t.1 ∙ expect_same 45 Some xs (at + 1) d.0 d.1 ∙ ap (λ (n : ℕ). Some (drop n xs)) e, omega (arith, d.0))

pub dash_tested : (xs : List ℕ) (at : ℕ) (t : Bool) → Stands xs at 9 → ByteIs xs (at + 1) 45 t → DashReadAt xs at t
dash_tested xs at true s d = dash_read_lem xs at s d
dash_tested xs at false s d = no_dash xs at s d

-- ---- for the search, by function

pub ruleset kind_laws = (no_tab, no_float, float_only, no_decimal, decimal_read)

pub ruleset dash_laws = (no_dash_tab, dash_tested)
