pub mod Numbers
pub mod Line
pub mod Value
pub mod Parts
