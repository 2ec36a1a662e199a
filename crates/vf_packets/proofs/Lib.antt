pub mod Stepping
pub mod Packeted
pub mod Numbered
pub mod Defined
pub mod Locating
pub mod Gathering
pub mod OneFont
