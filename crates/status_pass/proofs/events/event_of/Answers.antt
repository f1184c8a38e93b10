-- `status_pass::events::event_of` meets its contract: case by case. Assumes nothing.
use Rattle.std.proofs.Common.{inl, inr}
use Rattle.status_pass.specs.ListedLaws.{event_vanishes, event_starts, event_stops}
use Rattle.status_pass.proofs.events.event_of.Goals as goal

pub returns-in-Vanishes : goal.returns-in-Vanishes
returns-in-Vanishes c = event_vanishes _ c.load-touching.ensures c.load-events.ensures c.in-Vanishes.is c.then_some.ensures

pub returns-in-Starts : goal.returns-in-Starts
returns-in-Starts c = event_starts _ c.load-events.ensures c.in-Starts.is c.then_some-in-Starts.ensures

pub returns-in-Stops : goal.returns-in-Stops
returns-in-Stops c = event_stops _ c.load-events.ensures c.in-Stops.is c.then_some-in-Stops.ensures

pub returns-in-Generates : goal.returns-in-Generates
returns-in-Generates c =
    elim c.in-Generates.is [
      | inl e ↦ record { under = λ id. rw e }
      | inr o ↦ elim o [ inl e ↦ record { under = λ id. rw e } | inr e ↦ record { under = λ id. rw e } ]
    ]
