pub mod Tests
pub mod Least
pub mod Searches
pub mod Sums
pub mod Stores
pub mod Lists
pub mod Among
