pub mod Prelude
pub mod Loading
pub mod Continuing
pub mod Siting
pub mod Walks
pub mod Ending
pub mod Histories
pub mod Headline
pub mod Differing
pub mod TreeStatuses
mod Previewing
pub mod Unknowns
pub mod Spelled
pub mod Objects
pub mod BackdatingLemmas
pub mod Searching
pub mod LookingLemmas
