pub mod SweepLaws
pub mod CheckedLaws
