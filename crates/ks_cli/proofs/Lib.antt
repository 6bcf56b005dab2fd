pub mod Prelude
pub mod RuleLemmas
pub mod ArgLemmas
pub mod Reported
