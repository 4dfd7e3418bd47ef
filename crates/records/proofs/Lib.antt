-- Numbers in bytes, records in files; what each answer promises, that it is the only one, and that what is written reads back.
pub mod Numbers
pub mod Fields
pub mod Ranges
pub mod Testing
pub mod Answering
pub mod Unique
pub mod Places
pub mod Placing
pub mod Lawful
pub mod Again
pub mod Keeping
