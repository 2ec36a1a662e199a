pub mod Joined
pub mod Lanes
pub mod Laid
pub mod Cleared
pub mod Blanks
