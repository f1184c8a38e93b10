-- `manifold_matching::matching::match_point` meets its contract. No old point before k matches, and the row is as it was. Assumes nothing.
use Rattle.std.proofs.Common.{refl, ap, ◌∙◌, arith}
use Rattle.contact_types.specs.Views.{point_of}
use Rattle.rule_laws.specs.MatchingLaws.{none_before_first}
use Rattle.manifold_records.specs.MadeLaws.{point_seen}
use Rattle.manifold_matching.specs.MatchingLaws.{unmatched_next, matched_at, unmatched_all}
use Rattle.manifold_matching.proofs.matching.match_point.Goals as goal

pub loop-k-init : goal.loop-k-init
loop-k-init c = (refl, none_before_first _ _ _ _)

pub returns-then-matches : goal.returns-then-matches
returns-then-matches c =
    let new = ap point_of c.load-new.ensures ∙ point_seen _ _ in
    let old = ap point_of c.load-old.ensures ∙ point_seen _ _ in
    matched_at _ _ _ _ _ _ _ c.loop-k.k c.loop-k-test.true c.loop-k.invariant.1 new old c.matches.ensures c.if-matches.true c.loop-k.invariant.0 c.take_impulses.ensures

pub loop-k-preserved : goal.loop-k-preserved
loop-k-preserved c =
    let new = ap point_of c.load-new.ensures ∙ point_seen _ _ in
    let old = ap point_of c.load-old.ensures ∙ point_seen _ _ in
    (c.loop-k.invariant.0, unmatched_next _ _ _ _ _ _ _ c.loop-k.k c.loop-k-test.true c.loop-k.invariant.1 new old c.matches.ensures c.if-matches.false)

pub returns : goal.returns
returns c = rw c.loop-k.invariant.0 (unmatched_all _ _ _ _ _ _ _ c.loop-k.k (omega arith) c.loop-k.invariant.1)
