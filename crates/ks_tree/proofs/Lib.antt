pub mod Prelude
pub mod PathLemmas
pub mod Places
pub mod StampLemmas
pub mod Touching
pub mod Stored
pub mod Tables
