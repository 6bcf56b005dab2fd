pub mod Between
pub mod Builds
pub mod Stories
pub mod Adopted
pub mod Marked
