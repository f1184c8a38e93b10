-- How many words a record's line has. Definitions only.
use Rattle.std.specs.Prelude.{ℕ, suc, ◌+◌, cond, List, [], ◌∷◌, eqb, length}
use Rattle.layout.specs.Body.{body_size}
use Rattle.layout.specs.Collider.{collider_size}
use Rattle.layout.specs.Proposal.{proposed_point_size}
use Rattle.layout.specs.Request.{request_length}
use Rattle.layout.specs.Settings.{settings_length}
use Rattle.trace_rules.specs.Fields.{Item, plain, optional, setting, addition_letter, settings_letter, collider_letter, body_letter, hook_letter, manifold_letter, point_letter}

abbrev pub item_width : Item → ℕ
item_width (plain k) = 1
item_width (optional ks) = suc (length ks)
item_width setting = 2

unfoldable pub items_width : List Item → ℕ
items_width [] = 0
items_width (i ∷ is) = item_width i + items_width is

-- by the letter: the rows that it fills; two colliders and an answer, two colliders and a normal, nothing
unfoldable pub width_of : ℕ → ℕ
width_of l =
    cond (eqb l addition_letter) request_length
    (cond (eqb l settings_letter) settings_length
    (cond (eqb l collider_letter) collider_size
    (cond (eqb l body_letter) body_size
    (cond (eqb l hook_letter) 3
    (cond (eqb l manifold_letter) 5
    (cond (eqb l point_letter) proposed_point_size 0))))))
