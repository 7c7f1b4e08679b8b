pub mod Slots
pub mod Spans
pub mod Walks
pub mod Marks
pub mod Leaves
pub mod Refs
pub mod Judged
