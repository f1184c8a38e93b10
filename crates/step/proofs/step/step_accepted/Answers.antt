-- `step::step::step_accepted` meets its contract: the updates, the standing contacts, the status pass. Assumes nothing.
use mathlib.Core.Path.{refl, sym, ap, ◌∙◌}
use Rattle.std.proofs.lemmas.List.{length-take-le}
use native.Mathlib.Omega.{arith}
use Rattle.data_structures.specs.BitVec.{blocks_of}
use Rattle.step.specs.AcceptedLaws.{accepted}
use Rattle.step.proofs.CodeLaws.{shares_ready, updates_left, count_few, bits_size, ids_room, rows_there, step_done, counts_few}
use Rattle.step.proofs.step.step_accepted.Goals as goal

pub load_settings-requires : goal.load_settings-requires
load_settings-requires c = (accepted _ _ _ c.requires).setting_words

pub load-requires : goal.load-requires
load-requires c = let right = (accepted _ _ _ c.requires).checked.right in omega (arith, right.size)

pub update_all-recycled-requires : goal.update_all-recycled-requires
update_all-recycled-requires c = shares_ready (accepted _ _ _ c.requires) c.load_settings.ensures

pub standing-n-requires : goal.standing-n-requires
standing-n-requires c =
    let a = accepted _ _ _ c.requires in
    let u = updates_left a c.load_settings.ensures c.update_all-recycled.ensures in
    let k = c.blocks-count.ensures ∙ ap blocks_of c.load.ensures in
    (bits_size a u k, count_few a u k, refl)

pub slice_bounds-ids-end : goal.slice_bounds-ids-end
slice_bounds-ids-end c =
    let a = accepted _ _ _ c.requires in
    let u = updates_left a c.load_settings.ensures c.update_all-recycled.ensures in
    let k = c.blocks-count.ensures ∙ ap blocks_of c.load.ensures in
    ids_room a u k refl c.standing-n.ensures

pub slice_bounds-pass-end : goal.slice_bounds-pass-end
slice_bounds-pass-end c =
    let a = accepted _ _ _ c.requires in
    let u = updates_left a c.load_settings.ensures c.update_all-recycled.ensures in
    let k = c.blocks-count.ensures ∙ ap blocks_of c.load.ensures in
    sym (length-take-le _ _ (ids_room a u k refl c.standing-n.ensures))

pub pass-counts-requires : goal.pass-counts-requires
pass-counts-requires c =
    let a = accepted _ _ _ c.requires in
    let u = updates_left a c.load_settings.ensures c.update_all-recycled.ensures in
    let k = c.blocks-count.ensures ∙ ap blocks_of c.load.ensures in
    rows_there a u k refl c.standing-n.ensures

pub overflow_cast-result : goal.overflow_cast-result
overflow_cast-result c =
    let a = accepted _ _ _ c.requires in
    let u = updates_left a c.load_settings.ensures c.update_all-recycled.ensures in
    let k = c.blocks-count.ensures ∙ ap blocks_of c.load.ensures in
    let f = counts_few a u k refl c.standing-n.ensures c.pass-counts.ensures in
    omega (arith, f.0)

pub overflow_cast-result-2 : goal.overflow_cast-result-2
overflow_cast-result-2 c =
    let a = accepted _ _ _ c.requires in
    let u = updates_left a c.load_settings.ensures c.update_all-recycled.ensures in
    let k = c.blocks-count.ensures ∙ ap blocks_of c.load.ensures in
    let f = counts_few a u k refl c.standing-n.ensures c.pass-counts.ensures in
    omega (arith, f.1)

pub returns : goal.returns
returns c =
    let a = accepted _ _ _ c.requires in
    let u = updates_left a c.load_settings.ensures c.update_all-recycled.ensures in
    let k = c.blocks-count.ensures ∙ ap blocks_of c.load.ensures in
    step_done a u k refl c.standing-n.ensures c.pass-counts.ensures
