pub mod Parts
pub mod Bodies
pub mod Held
pub mod LineSteps
pub mod Astray
pub mod ReadAnswers
pub mod Laws
