pub mod Checked
pub mod Says
pub mod Swept
