-- `contact_update::renewal::renew_own` meets its contract: the copy has the old manifolds. Assumes nothing.
use native.Mathlib.Omega.{arith}
use Rattle.layout.specs.Contact.{contact_manifolds}
use Rattle.layout.specs.Manifold.{manifold_size, all_manifolds_size}
use Rattle.contact_update.specs.MatchTurnLaws.{olds_counted, renewed_read}
use Rattle.contact_update.proofs.renewal.renew_own.Goals as goal

pub renew_from-requires : goal.renew_from-requires
renew_from-requires c =
    (olds_counted _ contact_manifolds _ manifold_size c.load_words.ensures c.requires.0 c.load-old.ensures (omega (arith, c.if-old-le1.true)) (omega arith), c.requires.1, c.requires.2)

pub returns-then-old-le1 : goal.returns-then-old-le1
returns-then-old-le1 c = renewed_read _ _ manifold_size c.load_words.ensures c.requires.0 c.load-old.ensures (omega (arith, c.if-old-le1.true)) c.renew_from.ensures

pub renew_from-requires-2 : goal.renew_from-requires-2
renew_from-requires-2 c =
    let few = c.requires.0.manifolds in
    (olds_counted _ contact_manifolds _ all_manifolds_size c.load_words-2.ensures c.requires.0 c.load-old.ensures (omega (arith, few, c.load-old.ensures)) (omega arith), c.requires.1, c.requires.2)

pub returns : goal.returns
returns c =
    let few = c.requires.0.manifolds in
    renewed_read _ _ all_manifolds_size c.load_words-2.ensures c.requires.0 c.load-old.ensures (omega (arith, few, c.load-old.ensures)) c.renew_from-2.ensures
