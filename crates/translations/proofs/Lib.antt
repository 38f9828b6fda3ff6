pub mod Rounding
pub mod Distances
pub mod AnswerProofs
pub mod NearnessProofs
pub mod PatternProofs
