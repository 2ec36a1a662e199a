pub mod Belows
pub mod Costs
pub mod Plans
pub mod Marking
pub mod Planning
pub mod Within
