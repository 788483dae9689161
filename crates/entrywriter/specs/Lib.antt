pub mod Writes
pub mod Leads
pub mod Spells
pub mod Pens
