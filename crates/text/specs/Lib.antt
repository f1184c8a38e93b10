-- Words and numbers of a text: the definitions, what the code's answers say, and laws.
pub mod Text
pub mod Spelled
pub mod SpelledLaws
pub mod WrittenLaws
pub mod Answers
pub mod TextLaws
pub mod NumberLaws
