pub mod Codec
pub mod Turns
pub mod Writes
