pub mod LabelLaws
pub mod RowLaws
pub mod RuleLaws
pub mod GivesLaws
