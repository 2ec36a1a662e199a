pub mod Place
pub mod Drift
pub mod Mark
pub mod MarkOf
pub mod Conditions
pub mod MarkList
pub mod MarkListLaws
