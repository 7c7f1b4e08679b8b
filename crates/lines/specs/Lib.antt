pub mod Lines
pub mod Reads
pub mod Plans
pub mod Fills
pub mod Sizes
