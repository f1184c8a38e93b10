-- `narrow_phase::manifold::store_filtered` meets its contract. Assumes nothing.
use mathlib.Core.Path.{ap, ◌∙◌}
use Rattle.rows.specs.Rows.{put}
use Rattle.narrow_phase.specs.StoringLaws.{manifold_empty, manifold_stored_lem}
use Rattle.narrow_phase.proofs.manifold.store_filtered.Goals as goal

pub returns-then-count-eq0 : goal.returns-then-count-eq0
returns-then-count-eq0 c =
    manifold_empty _ _ c.args.filtering.now _ _ c.load-n.ensures c.load-normal.ensures c.store_left-count.ensures c.if-count-eq0.true

pub returns : goal.returns
returns c =
    manifold_stored_lem _ _ c.args.filtering.now _ _ c.load-n.ensures c.load-normal.ensures c.store_left-count.ensures c.if-count-eq0.false c.store_zeros.ensures
    (c.store_words.ensures ∙ ap (put _ _) c.surface_words-shared.ensures)
