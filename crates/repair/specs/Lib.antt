pub mod Repaired
pub mod Stays
pub mod Ends
pub mod Steps
pub mod Says
