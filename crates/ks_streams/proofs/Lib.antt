pub mod Prelude
pub mod Writing
pub mod Offering
