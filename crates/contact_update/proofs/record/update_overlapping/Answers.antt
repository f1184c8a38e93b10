-- `contact_update::record::update_overlapping` meets its contract. Assumes nothing.
use mathlib.Core.Path.{ap}
use Rattle.rules.specs.Records.{PairFlags}
use Rattle.contact_records.specs.Recorded.{pair_at}
use Rattle.contact_update.specs.BranchLaws.{updates_by, answered_full, answered_recycled}
use Rattle.contact_update.proofs.record.update_overlapping.Goals as goal

pub returns-in-Some : goal.returns-in-Some
unfolding pair_at
returns-in-Some c =
    let touching = ap (λ (f : PairFlags). f.touching) c.load_flags-flags.ensures in
    record {
      under = λ id. updates_by (answered_recycled _ _ _ _ _ _ _ (pair_at c.args.words.now 0 id) _ _ c.recycle.ensures touching c.load_cache-cache.ensures _ c.in-Some.is) (c.update_recycled.ensures.under id);
    }

pub returns-in-None : goal.returns-in-None
unfolding pair_at
returns-in-None c =
    let touching = ap (λ (f : PairFlags). f.touching) c.load_flags-flags.ensures in
    record {
      under = λ id. updates_by (answered_full _ _ _ _ _ _ _ (pair_at c.args.words.now 0 id) _ _ c.recycle.ensures touching c.load_cache-cache.ensures c.in-None.is) (c.update_full.ensures.under id);
    }
