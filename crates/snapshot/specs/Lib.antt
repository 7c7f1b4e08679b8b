pub mod Snapshot
pub mod Exact
pub mod Walk
pub mod Says
pub mod Readied
pub mod Counts
pub mod Lists
