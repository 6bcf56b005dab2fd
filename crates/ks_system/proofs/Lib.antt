pub mod Counted
pub mod Pieces
pub mod Ahead
pub mod Filled
