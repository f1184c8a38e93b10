-- The code's kinds of fields, its items of a record, and its kinds of lines, as those of the rules. Definitions only.
use Rattle.std.specs.Prelude.{ℕ, List, [], ◌∷◌, map}
use Rattle.trace_rules.specs.Fields as rules
use Rattle.trace_lines.specs.declared.shapes.Kind.{Kind}
use Rattle.trace_lines.specs.declared.shapes.Kind.TheVariants.{Float, Number, Collider, Body, Mark, Rule}
use Rattle.trace_lines.specs.declared.shapes.Item.{Item}
use Rattle.trace_lines.specs.declared.shapes.Item.TheVariants.{Plain, Optional, Coefficient, Setting}
use Rattle.trace_lines.specs.declared.line_kind.LineKind as lines
use Rattle.trace_lines.specs.declared.line_kind.LineKind.TheVariants as line

abbrev pub kind_of : Kind → rules.Kind
kind_of Float = rules.float
kind_of Number = rules.number
kind_of Collider = rules.collider
kind_of Body = rules.body
kind_of Mark = rules.mark
kind_of Rule = rules.rule

abbrev pub item_of : Item → rules.Item
item_of (Plain k) = rules.plain (kind_of k)
item_of (Optional k) = rules.optional (kind_of k ∷ [])
item_of Coefficient = rules.optional rules.coefficient
item_of Setting = rules.setting

abbrev pub items_of : List Item → List rules.Item
items_of items = map item_of items

-- the letter that its line begins with
abbrev pub letter_of : lines.LineKind → ℕ
letter_of line.Addition = rules.addition_letter
letter_of line.Settings = rules.settings_letter
letter_of line.Collider = rules.collider_letter
letter_of line.Body = rules.body_letter
letter_of line.Hook = rules.hook_letter
letter_of line.Manifold = rules.manifold_letter
letter_of line.Point = rules.point_letter
letter_of line.Go = rules.go_letter
