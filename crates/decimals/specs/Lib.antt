pub mod Decimals
pub mod Reads
