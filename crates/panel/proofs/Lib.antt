pub mod Floats
pub mod Rounding
pub mod Capped
pub mod Tables
