-- What a trace prints: the theorems.
pub mod Plays
pub mod GoLaws
pub mod RoomLaws
pub mod EntryLaws
pub mod StandsLaws
pub mod PlayRunLaws
pub mod KeptLaws
pub mod EndsLaws
pub mod Calls
pub mod CallsLaws
