-- A recorded load: the text, its lines, the calls that they are, and what these print. Definitions only; docs/TRACES.md says it in words.
pub mod Fields
pub mod Reading
pub mod Records
pub mod Printed
pub mod Play
pub mod Places
