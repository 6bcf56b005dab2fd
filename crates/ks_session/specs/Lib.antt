pub mod Directories
pub mod GlobalOptions
pub mod Lock
pub mod Numbers
pub mod Calls
pub mod Start
