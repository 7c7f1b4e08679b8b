pub mod DecimalLaws
pub mod ReadLaws
pub mod WriteLaws
