pub mod AnswerLaws
pub mod CallLaws
