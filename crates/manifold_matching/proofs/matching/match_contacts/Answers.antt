-- `manifold_matching::matching::match_contacts` meets its contract. The first k points of the manifold that stood there are matched. Assumes nothing.
use Rattle.std.proofs.Common.{refl, arith, rules}
use Rattle.manifold_matching.specs.MatchingLaws.{read_stored, read_fits, count_few, count_read, contacts_next, contacts_all}
use Rattle.manifold_matching.proofs.matching.match_contacts.Goals as goal

pub loop-k-init : goal.loop-k-init
loop-k-init c = (omega (arith, count_few _ _ c.requires.0), omega arith, refl, read_stored _ _ c.requires.0)

pub loop-k-preserved : goal.loop-k-preserved
loop-k-preserved c = (
  c.loop-k.invariant.0,
  c.loop-k.invariant.1,
  search rules,
  contacts_next _ _ _ _ _ c.loop-k.k _ (read_fits _ _ c.requires.0) (omega (arith, c.load-count.ensures, count_read c.args.words.now c.args.at))
      c.requires.1 c.loop-k.invariant.3 c.match_point.ensures,
)

pub returns : goal.returns
returns c = contacts_all _ _ _ _ _ _ _ _ c.loop-k.k c.load-n.ensures c.load-count.ensures c.loop-k-test.false c.loop-k.invariant.3
