-- `contact_graph::add::store_new` meets its contract: the head's words over a blank record. Assumes nothing.
use mathlib.Core.Path.{ap, ◌∙◌}
use Rattle.rows.specs.Rows.{put}
use Rattle.manifold_records.specs.Written.{zeros}
use Rattle.contact_records.specs.NewLaws.{length_new}
use Rattle.contact_graph.specs.AddLaws.{stored_over}
use Rattle.contact_graph.proofs.add.store_new.Goals as goal

pub returns : goal.returns
unfolding zeros
returns c =
    let at2 = c in
    let words = at2.new_words-head.ensures in
    stored_over _ _ _ (length_new _ _) at2.store_zeros.ensures (at2.store_words.ensures ∙ ap (put _ _) words)
