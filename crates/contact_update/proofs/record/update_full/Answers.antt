-- `contact_update::record::update_full` meets its contract. Assumes nothing.
use mathlib.Core.Path.{refl}
use Rattle.contact_records.specs.Recorded.{pair_at}
use Rattle.contact_update.specs.RenewLaws.{full_updates}
use Rattle.contact_update.proofs.record.update_full.Goals as goal

pub returns : goal.returns
unfolding pair_at
returns c =
    let w = c.args.words.now in
    record {
      under = λ id. full_updates _ _ _ _ _ _ _ w (pair_at w 0 id) _ _ _ _ _ c.load-given.ensures c.load_flags-flags.ensures refl c.load-old.ensures
          c.surface_of-surface.ensures c.renew-renewal.result c.renew_manifolds-new.ensures c.renew-renewal.ensures c.store_renewal.ensures;
    }
