pub mod KindLaws
pub mod AnswerLaws
