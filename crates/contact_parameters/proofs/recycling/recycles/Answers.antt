-- `contact_parameters::recycling::recycles` meets its contract: each way out of the labelled loop is a test of the rule. Assumes nothing.
use mathlib.Core.Path.{refl, sym, ap, ◌∙◌}
use lib.Ieee.{Float, le}
use Rattle.math.specs.Constants.{zero_f}
use Rattle.contact_records.specs.StateViews.{cache_of}
use Rattle.contact_parameters.specs.RecycleLaws.{recycling_off_lem, recycle_none, rotated_too_far_lem, recycle_far, arc_too_long_lem, recycle_holds}
use Rattle.contact_parameters.proofs.recycling.recycles.Goals as goal

pub recycle-init : goal.recycle-init
recycle-init c = refl

pub returns-then-scaled_recycle : goal.returns-then-scaled_recycle
returns-then-scaled_recycle c = recycling_off_lem _ _ _ _ _ (sym (ap (λ (x : Float). le x zero_f) c.scaled_recycle.ensures) ∙ c.if-scaled_recycle.true)

pub returns-in_default : goal.returns-in_default
returns-in_default c = recycle_none _ _ _ _ _ (ap cache_of (sym c.recycle.invariant ∙ c.in_default.is))

pub returns-then-least_squared_dot-settings : goal.returns-then-least_squared_dot-settings
returns-then-least_squared_dot-settings c = rotated_too_far_lem _ _ _ _ _ _ (ap cache_of (sym c.recycle.invariant ∙ c.in-Some.is)) (sym (ap (λ (x : Float). le x zero_f) c.scaled_recycle.ensures) ∙ c.if-scaled_recycle.false) c.least_squared_dot.ensures c.if-least_squared_dot-settings.true

pub returns-then-squared-tolerance : goal.returns-then-squared-tolerance
returns-then-squared-tolerance c = recycle_far _ _ _ _ _ _ (ap cache_of (sym c.recycle.invariant ∙ c.in-Some.is)) (sym (ap (λ (x : Float). le x zero_f) c.scaled_recycle.ensures) ∙ c.if-scaled_recycle.false) c.least_squared_dot.ensures c.if-least_squared_dot-settings.false c.tolerance_for-tolerance.ensures c.squared_motion-squared.ensures c.if-squared-tolerance.true

pub returns-then-arc_length-tolerance : goal.returns-then-arc_length-tolerance
returns-then-arc_length-tolerance c =
    arc_too_long_lem _ _ _ _ _ _ (ap cache_of (sym c.recycle.invariant ∙ c.in-Some.is)) (sym (ap (λ (x : Float). le x zero_f) c.scaled_recycle.ensures) ∙ c.if-scaled_recycle.false) c.least_squared_dot.ensures c.if-least_squared_dot-settings.false c.tolerance_for-tolerance.ensures c.squared_motion-squared.ensures c.if-squared-tolerance.false c.arc_length.ensures c.root.ensures
    c.if-arc_length-tolerance.true

pub returns-else-arc_length-tolerance : goal.returns-else-arc_length-tolerance
returns-else-arc_length-tolerance c =
    recycle_holds _ _ _ _ _ _ (ap cache_of (sym c.recycle.invariant ∙ c.in-Some.is)) (sym (ap (λ (x : Float). le x zero_f) c.scaled_recycle.ensures) ∙ c.if-scaled_recycle.false) c.least_squared_dot.ensures c.if-least_squared_dot-settings.false c.tolerance_for-tolerance.ensures c.squared_motion-squared.ensures c.if-squared-tolerance.false c.arc_length.ensures c.root.ensures
    c.if-arc_length-tolerance.false
