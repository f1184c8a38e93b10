-- What the answers of `read_line`'s parts say of a text. Definitions only.
use Rattle.std.specs.Prelude.{◌≡◌, ℕ, ◌+◌, ◌≤◌, ◌<◌, Bool, true, false, List, [], ◌∷◌, length, take, drop, None, Some, Option}
use Rattle.rows.specs.Rows.{put}
use Rattle.text.specs.Text.{Taken}
use Rattle.trace_rules.specs.Fields.{Kind, kind_fits, read_kind, Fields, dash_read, shape}
use Rattle.trace_lines.specs.Items.{letter_of}
use Rattle.trace_lines.specs.declared.fields.Checked.{Checked}
use Rattle.trace_lines.specs.declared.line_kind.LineKind.{LineKind}

-- ---- a dash after a tab
abbrev pub DashReadAt : List ℕ → ℕ → Bool → Type 0
DashReadAt xs at true = (dash_read (drop at xs) ≡ Some (drop (at + 2) xs)) × (at + 2 ≤ length xs)
DashReadAt xs at false = dash_read (drop at xs) ≡ None

-- ---- a field
pub record FieldAt (k : Kind) (xs : List ℕ) (at : ℕ) (f : Checked ℕ) : Type 0 where
  pub read : read_kind k (drop at xs) ≡ Some (record { value = f.value; rest = drop f.next xs })
  pub fits : f.fits ≡ kind_fits k f.value
  pub past : at < f.next
  pub inside : f.next ≤ length xs

abbrev pub FieldReadAt : Kind → List ℕ → ℕ → Option (Checked ℕ) → Type 0
FieldReadAt k xs at (Some f) = FieldAt k xs at f
FieldReadAt k xs at None = read_kind k (drop at xs) ≡ None

-- ---- what a dash for one field reads to: a mark, and 0
abbrev pub zero_behind : ℕ → Fields
zero_behind mark = record { words = mark ∷ 0 ∷ []; fits = true }

-- ---- a value: its words are the first of three
pub record ValueAt (reads : List ℕ → Option (Taken Fields)) (width : ℕ) (xs : List ℕ) (at : ℕ) (v : Checked (List ℕ)) : Type 0 where
  pub read : reads (drop at xs) ≡ Some (record { value = record { words = take width v.value; fits = v.fits }; rest = drop v.next xs })
  pub past : at ≤ v.next
  pub inside : v.next ≤ length xs

abbrev pub ValueReadAt : (List ℕ → Option (Taken Fields)) → ℕ → List ℕ → ℕ → Option (Checked (List ℕ)) → Type 0
ValueReadAt reads width xs at (Some v) = ValueAt reads width xs at v
ValueReadAt reads width xs at None = reads (drop at xs) ≡ None

-- ---- items: their words stand at the front of the row
pub record ExtentAt (reads : List ℕ → Option (Taken Fields)) (xs : List ℕ) (at : ℕ) (before after : List ℕ) (e : Checked (Unit {0})) : Type 0 where
  pub fields : Fields
  pub read : reads (drop at xs) ≡ Some (record { value = fields; rest = drop e.next xs })
  pub stored : after ≡ put before 0 fields.words
  pub fits : e.fits ≡ fields.fits
  pub past : at ≤ e.next
  pub inside : e.next ≤ length xs

abbrev pub ItemsReadAt : (List ℕ → Option (Taken Fields)) → List ℕ → ℕ → List ℕ → List ℕ → Option (Checked (Unit {0})) → Type 0
ItemsReadAt reads xs at before after (Some e) = ExtentAt reads xs at before after e
ItemsReadAt reads xs at before after None = reads (drop at xs) ≡ None

-- ---- a line's letter: without a kind, it is of no record
abbrev pub KindReadAt : ℕ → Option LineKind → Type 0
KindReadAt letter (Some kind) = letter ≡ letter_of kind
KindReadAt letter None = shape letter ≡ None
