-- The definition of a turn by its cases, what a leg makes of a turn, what turns say, one after another, up to a whole trip; and that a
-- turn's promise allows one outcome alone.
pub mod Cases
pub mod Making
pub mod Saying
pub mod Tripping
pub mod Whole
pub mod Unique
