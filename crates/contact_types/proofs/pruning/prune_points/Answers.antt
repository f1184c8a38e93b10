-- `contact_types::pruning::prune_points` meets its contract: points 1 and 2 exist, and the rest is what each call ensures. Assumes nothing.
use Rattle.std.proofs.Common.{refl, ap, ◌∙◌, rules}
use Rattle.contact_types.specs.Pruned.{kept_struct}
use Rattle.contact_types.specs.PruneEndLaws.{first_there, first_below, second_there, second_below, kept_gathered}
use Rattle.contact_types.proofs.pruning.prune_points.Goals as goal

pub unwrap-i-requires : goal.unwrap-i-requires
unwrap-i-requires c = first_there _ _ _ _ (search rules) (search rules) c.project_all-all.ensures c.first_point.ensures

pub second_point-requires : goal.second_point-requires
second_point-requires c = (search rules, first_below _ _ _ _ (search rules) (search rules) c.project_all-all.ensures c.first_point.ensures c.unwrap-i.ensures)

pub unwrap-j-requires : goal.unwrap-j-requires
unwrap-j-requires c = second_there _ _ _ _ (search rules) (search rules) c.project_all-all.ensures _ c.second_point.ensures

pub side_points-sides-requires : goal.side_points-sides-requires
side_points-sides-requires c = (
  search rules,
  first_below _ _ _ _ (search rules) (search rules) c.project_all-all.ensures c.first_point.ensures c.unwrap-i.ensures,
  second_below _ _ _ _ (search rules) (search rules) c.project_all-all.ensures _ c.second_point.ensures c.unwrap-j.ensures,
)

pub returns : goal.returns
returns c =
    c.gather.ensures
    ∙ ap kept_struct (kept_gathered _ _ _ _ (search rules) (search rules) c.project_all-all.ensures c.first_point.ensures c.unwrap-i.ensures c.second_point.ensures c.unwrap-j.ensures c.side_points-sides.ensures refl)
