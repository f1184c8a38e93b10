-- `manifold_matching::matching::match_manifolds` meets its contract. The first i of the manifolds that stood there are matched. Assumes nothing.
use Rattle.std.proofs.Common.{refl, arith, rules}
use Rattle.manifold_matching.specs.MatchingLaws.{manifolds_begin, one_written, manifolds_next, manifolds_end}
use Rattle.manifold_matching.proofs.matching.match_manifolds.Goals as goal

pub loop-i-init : goal.loop-i-init
loop-i-init c = (refl, manifolds_begin _ _ _ c.requires.0)

pub match_all-requires : goal.match_all-requires
match_all-requires c = (one_written _ _ _ _ _ _ c.loop-i.i c.requires.0 c.loop-i-test.true c.requires.1 c.loop-i.invariant.1, omega arith, c.requires.2)

pub loop-i-preserved : goal.loop-i-preserved
loop-i-preserved c = (search rules, manifolds_next _ _ _ _ _ _ c.loop-i.i c.requires.0 c.loop-i-test.true c.requires.1 c.loop-i.invariant.1 c.match_all.ensures)

pub returns : goal.returns
returns c = manifolds_end _ _ _ _ _ _ c.loop-i.i c.loop-i-test.false c.loop-i.invariant.1
