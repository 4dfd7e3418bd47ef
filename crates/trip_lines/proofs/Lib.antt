pub mod Spelling
pub mod Unique
