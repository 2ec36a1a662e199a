pub mod Units
pub mod Decimals
pub mod Dimension
pub mod FileNames
pub mod Commas
pub mod Special
pub mod View
