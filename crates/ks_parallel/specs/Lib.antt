pub mod Calls
pub mod Orders
pub mod Frames
pub mod Views
pub mod Shuffles
pub mod Stamping
pub mod Runs
