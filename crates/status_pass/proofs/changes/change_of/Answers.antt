-- `status_pass::changes::change_of` meets its contract: case by case. Assumes nothing.
use Rattle.std.proofs.Common.{inl, inr}
use Rattle.status_pass.specs.ListedLaws.{change_vanishes, change_starts, change_stops, change_generates, change_recounts}
use mathlib.Core.Path.{refl}
use Rattle.status_pass.proofs.changes.change_of.Goals as goal

pub returns-in-Vanishes : goal.returns-in-Vanishes
returns-in-Vanishes c =
    elim c.in-Vanishes.is [
      | inl e ↦ change_vanishes _ c.load-generating.ensures c.load.ensures c.load-2.ensures e c.then_some.ensures
      | inr e ↦ change_stops _ c.load-generating.ensures c.load.ensures c.load-2.ensures e c.then_some.ensures
    ]

pub returns-in-Starts : goal.returns-in-Starts
returns-in-Starts c = change_starts _ c.load-generating.ensures c.in-Starts.is c.then_some-in-Starts.ensures

pub returns-in-Generates : goal.returns-in-Generates
returns-in-Generates c = change_generates _ c.in-Generates.is refl

pub returns-in-Recounts : goal.returns-in-Recounts
returns-in-Recounts c = change_recounts _ c.load.ensures c.load-2.ensures c.in-Recounts.is c.then_some-in-Recounts.ensures

pub returns-in-Persists : goal.returns-in-Persists
returns-in-Persists c = record { under = λ id. rw c.in-Persists.is }
