pub mod Tables
pub mod Refusals
