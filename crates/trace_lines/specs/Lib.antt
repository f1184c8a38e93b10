-- A trace's lines read by their place: the promise, the table of shapes, and laws.
pub mod Promises
pub mod Items
pub mod Widths
pub mod Answers
pub mod FieldLaws
pub mod ItemLaws
pub mod ShapeLaws
pub mod WidthLaws
pub mod BoundLaws
pub mod LineLaws
pub mod ExampleLaws
