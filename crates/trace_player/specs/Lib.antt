-- A trace played line by line: the player, and what a call does.
pub mod Player
pub mod Played
pub mod PlayLaws
pub mod AskedLaws
pub mod CallLaws
pub mod DeterminedLaws
