pub mod Digits
pub mod After
pub mod Names
