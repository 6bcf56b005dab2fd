pub mod Prelude
pub mod Each
pub mod Apart
pub mod Parts
pub mod Joined
pub mod Stamping
pub mod Frames
pub mod Runs
