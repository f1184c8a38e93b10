-- Feature numbers: a kind (1 vertex, 2 edge, 3 face) in the two highest bits, a code in the other thirty. Definitions only.
use Rattle.std.specs.Prelude.{ℕ, ◌+◌, ◌*◌, ◌/◌, ◌^◌, Bool, true, false, List, eqb, ltb, None, Some, Option}
use Rattle.words.specs.Words.{word_at}
use Rattle.contact_types.specs.declared.feature_id.PackedFeatureId.{PackedFeatureId}
use Rattle.contact_types.specs.declared.feature_id.FeatureKind.{FeatureKind}
use Rattle.contact_types.specs.declared.feature_id.FeatureKind.TheVariants.{Vertex, Edge, Face}

-- the feature whose number stands at a place
abbrev pub feature_at : List ℕ → ℕ → PackedFeatureId
feature_at xs at = record { 0 = word_at xs at }

abbrev pub number_of : FeatureKind → ℕ
number_of Vertex = 1
number_of Edge = 2
number_of Face = 3

abbrev pub packed_if : Bool → ℕ → Option PackedFeatureId
packed_if true n = Some (record { 0 = n })
packed_if false n = None

-- a code of thirty bits under its kind; any other is too large
abbrev pub packed_as : ℕ → ℕ → Option PackedFeatureId
packed_as kind code = packed_if (ltb code (2 ^ 30)) (kind * 2 ^ 30 + code)

abbrev pub is_kind : ℕ → ℕ → Bool
is_kind kind n = eqb (n / 2 ^ 30) kind
