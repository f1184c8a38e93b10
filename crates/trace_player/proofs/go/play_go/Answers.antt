-- `trace_player::go::play_go` meets its contract. Assumes nothing.
use Rattle.contact_range.specs.RangeStepLaws.{refused_by, passed_by}
use Rattle.trace_player.specs.PlayLaws.{length_parts, go_refused, go_made, go_checked}
use Rattle.trace_player.proofs.go.play_go.Goals as goal

pub go_fits-requires : goal.go_fits-requires
go_fits-requires c = (length_parts _ _ _ c.requires).0

pub returns-then-not-go_fits : goal.returns-then-not-go_fits
returns-then-not-go_fits c = let f = refused_by c.go_fits.ensures c.if-not-go_fits.true in go_refused _ _ _ _ _ f (rw c.number.ensures at c.write_refused.ensures)

pub fill_given-requires : goal.fill_given-requires
fill_given-requires c =
    let l = length_parts _ _ _ c.requires in
    (go_checked c.args.player _ (passed_by c.go_fits.ensures c.if-not-go_fits.false) l.0, l.1)

pub returns : goal.returns
returns c =
    let f = passed_by c.go_fits.ensures c.if-not-go_fits.false in
    go_made _ _ _ _ _ f c.fill_given.ensures c.play_step.ensures
