pub mod CaseLaws
pub mod TextLaws
