-- `contact_types::prune::prune` meets its contract: the tests in their order, then what the calls ensure. Assumes nothing.
use Rattle.std.proofs.Common.{ap, ◌∙◌, arith, eq-eqb, le-ltb, rules}
use Rattle.contact_types.specs.Prune.{prune_answer, keeps}
use Rattle.contact_types.specs.PruneEndLaws.{kept_front}
use Rattle.contact_types.specs.PruneLoadLaws.{kept_loaded}
use Rattle.contact_types.specs.Pruned.{kept_struct}
use Rattle.contact_types.proofs.prune.prune.Goals as goal

pub returns : goal.returns
unfolding prune_answer
returns c =
    record {
      answer =
          rw (eq-eqb _ _ c.if-points-ne-PRUNE_POINTS_LENGTH.false, le-ltb c.args.count 5 (omega (arith, c.if-count-le-STORED_POINTS.false)), le-ltb _ _ c.if-count-gt-PROPOSED_POINTS.false)
          (ap keeps (c.prune_points.ensures ∙ ap kept_struct (kept_front _ _ _ (search rules) ∙ kept_loaded _ _ _ _ c.load_points-loaded.ensures)));
    }
