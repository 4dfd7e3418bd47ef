-- That what the host entry promises allows one outcome alone.
pub mod Unique
