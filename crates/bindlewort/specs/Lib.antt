pub mod Given
pub mod Codes
pub mod Cases
