-- `manifold_matching::matching::match_all` meets its contract. The manifold that stood there is matched against the first j of the old ones. Assumes nothing.
use Rattle.std.proofs.Common.{refl, arith, rules}
use Rattle.manifold_matching.specs.MatchingLaws.{all_begin, all_written, all_next, all_end}
use Rattle.manifold_matching.proofs.matching.match_all.Goals as goal

pub loop-j-init : goal.loop-j-init
loop-j-init c = (refl, all_begin _ _ _ _ _ c.requires.0)

pub match_contacts-requires : goal.match_contacts-requires
match_contacts-requires c =
    let o = c.requires.2 in (
      all_written _ _ _ _ c.loop-j.j _ _ o c.loop-j-test.true c.requires.0 c.requires.1 c.loop-j.invariant.1,
      omega arith,
      omega (arith, o.long),
      o.points c.loop-j.j c.loop-j-test.true,
    )

pub loop-j-preserved : goal.loop-j-preserved
loop-j-preserved c = (search rules, all_next _ _ _ _ c.loop-j.j _ _ c.requires.2 c.loop-j-test.true c.requires.0 c.requires.1 c.loop-j.invariant.1 c.match_contacts.ensures)

pub returns : goal.returns
returns c = all_end _ _ _ _ _ _ c.loop-j.j (omega arith) c.loop-j.invariant.1
