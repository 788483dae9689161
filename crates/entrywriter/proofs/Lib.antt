pub mod Fitting
pub mod Heads
pub mod Joining
pub mod Puts
pub mod Telling
