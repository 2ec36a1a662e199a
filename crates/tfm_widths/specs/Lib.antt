pub mod Lengths
pub mod Widths
pub mod Faults
pub mod Layout
