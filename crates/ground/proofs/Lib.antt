pub mod TestLaws
pub mod LeastLaws
pub mod Pigeonhole
pub mod SumLaws
pub mod ListLaws
