pub mod Ranges
pub mod Numbering
pub mod Kinds
pub mod Families
pub mod Refusals
pub mod Openings
pub mod Opened
