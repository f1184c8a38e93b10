-- What the lines of a trace mean: either order of a pair's colliders, lines of a pair that is not active, lines that a later one replaces, a setting that is not said.
-- Exchanged, PassedOver, Replaced, Named and WholeTrace say what the theorems are about: `pair_order` (PairOrderLaws), `passed_over` (PassedOverLaws), `replaced`
-- (ReplacedLaws), `settings_dash`, `settings_missing`, `steps_named` (NamedLaws), `dash_by_number`, `missing_by_number`, `last_settings` (PlayedByLaws) and, of whole
-- traces, `passed_over_trace`, `replaced_trace`, `next_go_only` (WholeTraceLaws).
pub mod Exchanged
pub mod FoldLaws
pub mod Named
pub mod NamedLaws
pub mod PairOrderLaws
pub mod PassedOver
pub mod PassedOverLaws
pub mod PlayedByLaws
pub mod Replaced
pub mod ReplacedLaws
pub mod ReadableLaws
pub mod WholeTrace
pub mod WholeTraceLaws
