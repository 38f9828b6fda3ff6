pub mod Answers
pub mod RoundTrips
pub mod Rows
pub mod OldReader
