pub mod CommandLine
pub mod Args
pub mod Meaning
pub mod Laws
