pub mod Files
pub mod Frames
pub mod Faults
pub mod Paths
pub mod Stamps
pub mod Memory
pub mod Fuse
