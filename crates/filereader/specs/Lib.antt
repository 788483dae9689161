pub mod Readers
pub mod Surveys
