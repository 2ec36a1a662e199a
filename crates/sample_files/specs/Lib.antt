pub mod Letters
pub mod Commands
pub mod Pages
pub mod Document
pub mod Widths
pub mod Bitmaps
