pub mod Errors
pub mod System
pub mod Reading
pub mod Held
pub mod HostPaths
pub mod Disk
