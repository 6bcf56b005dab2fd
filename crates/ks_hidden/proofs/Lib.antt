pub mod TextLemmas
pub mod IncludeLemmas
pub mod HeaderLines
pub mod HeaderLinesWorked
pub mod WholeHeaders
