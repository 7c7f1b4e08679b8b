pub mod GivenLaws
pub mod CodeLaws
pub mod Demands
pub mod Starred
