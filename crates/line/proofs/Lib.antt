pub mod Linear
pub mod Casts
pub mod ByParts
pub mod FourAnswers
pub mod Placed
pub mod Tests
pub mod Laws
