-- What an entry's answer is in the C interface's numbers, and that each function's promise allows one outcome alone.
pub mod Telling
pub mod Hosting
pub mod Unique
