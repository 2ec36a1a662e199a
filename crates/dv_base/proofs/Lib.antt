pub mod MessageLaws
pub mod Conversions
pub mod Divided
pub mod Products
pub mod Taken
mod Nearness
pub mod Excess
