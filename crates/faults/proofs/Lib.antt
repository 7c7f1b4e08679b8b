pub mod SlotLaws
pub mod SpanLaws
pub mod WalkLaws
pub mod MarkLaws
pub mod PartLaws
pub mod LeafLaws
pub mod RefLaws
pub mod JudgeLaws
