-- `contact_types::pruning::heaviest` meets its contract: the lead is the rule's at each turn. Assumes nothing.
use Rattle.std.proofs.Common.{refl}
use Rattle.math.specs.Constants.{lowest}
use Rattle.rules.specs.Numbers.{greater, leader}
use Rattle.contact_types.specs.Pruned.{projected_by, weighed}
use Rattle.contact_types.specs.PruneStepLaws.{turn}
use Rattle.contact_types.proofs.pruning.heaviest.Goals as goal

pub loop-k-init : goal.loop-k-init
unfolding leader
loop-k-init g c = λ s a p q. refl

pub loop-k-preserved : goal.loop-k-preserved
loop-k-preserved g c = λ s a p q.
    let v = rw (p.each _ _ c.squared.ensures) at c.weight-value.ensures in
    turn greater (weighed s (projected_by c.args.ps.now)) a lowest c.loop-k.k (c.loop-k.invariant s a p q) (q.each _ _ c.among.ensures) v refl c.passed-lead.ensures
