pub mod Prelude
pub mod Viewed
pub mod Refusing
pub mod Writing
pub mod Printing
pub mod Siting
mod ReadingLemmas
pub mod JsonObjects
mod ScriptFaults
mod ScriptSpellings
mod ScriptSyncing
mod ScriptArgs
pub mod NameLines
