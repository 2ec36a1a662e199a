pub mod Kept
pub mod Walk
pub mod TreeLaws
pub mod Sizes
pub mod Passing
pub mod Bytes
pub mod Stopping
pub mod Coming
pub mod Later
pub mod Naming
pub mod Covering
pub mod Chars
pub mod Counting
pub mod Turns
pub mod Expansion
pub mod Packets
mod Rooms
mod Quick
mod Sets
mod Nops
mod Amounts
mod Selecting
pub mod Paging
pub mod Faultless
pub mod Alike
pub mod AlikeMarks
pub mod OnGrids
pub mod Painting
mod Told
