pub mod Text
pub mod Answers
pub mod Forms
pub mod Reads
pub mod Sizes
