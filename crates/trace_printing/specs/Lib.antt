-- What a call prints: the cells of a line as the code has them.
pub mod Cells
pub mod CellLaws
pub mod Lines
pub mod LineLaws
