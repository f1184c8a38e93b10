-- `update_pass::standing::standing` meets its contract. Assumes nothing.
use Rattle.update_pass.specs.JoinLaws.{first_zeros}
use Rattle.update_pass.proofs.standing.standing.Goals as goal

pub join-requires : goal.join-requires
join-requires c = (c.requires.0, c.requires.1, first_zeros c.args.count c.requires.1)
