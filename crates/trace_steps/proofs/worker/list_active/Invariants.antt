-- What the loop of `trace_steps::worker::list_active` keeps.
use Rattle.std.specs.Prelude.{◌≡◌, ◌≤◌, length, take}
use Rattle.rows.specs.Rows.{put}
use Rattle.layout.specs.Shares.{shares_entries}
use Rattle.update_pass.specs.Shared.{active_of}
use Rattle.trace_steps.proofs.worker.list_active.Given as goal

abbrev pub invariant-loop-p : goal.invariant-loop-p
invariant-loop-p l =
    (l.p ≤ l.listed) × (length l.shares ≡ length l.initial.shares) × (l.shares ≡ put l.initial.shares shares_entries (take l.p (active_of l.graph)))
