pub mod Answers
pub mod Numbers
pub mod Kinds
pub mod Refusals
