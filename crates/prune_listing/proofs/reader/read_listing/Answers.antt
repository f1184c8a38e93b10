-- `prune_listing::reader::read_listing` meets its contract. Assumes nothing.
use Rattle.std.proofs.Common.{rules}
use Rattle.prune_listing.specs.Listing.{normal_line}
use Rattle.prune_listing.specs.ListingLaws.{too_long, no_normal, no_points, all_read}
use Rattle.prune_listing.proofs.reader.read_listing.Goals as goal

pub returns-then-text-gt-LONGEST : goal.returns-then-text-gt-LONGEST
returns-then-text-gt-LONGEST c = too_long _ _ c.if-text-gt-LONGEST.true

pub returns-in_err-normal : goal.returns-in_err-normal
unfolding normal_line
returns-in_err-normal c = rw c.from_residual.ensures (no_normal c.args.text.now c.args.points.now (search rules) c.in_err-normal.ensures)

pub returns-in_err-count : goal.returns-in_err-count
unfolding normal_line
returns-in_err-count c =
    rw c.from_residual-in_err-count.ensures (no_points c.args.text.now c.args.points.now (search rules) _ c.in_ok-normal.ensures c.in_err-count.ensures)

pub returns : goal.returns
unfolding normal_line
returns c = all_read c.args.text.now c.args.points.now (search rules) _ c.in_ok-normal.ensures _ _ c.in_ok-count.ensures c.store_points.ensures
