-- What the induction comes to: the laws of the steps of a thread.
pub mod FirstSteps
pub mod FurtherAnswers
pub mod Moments
pub mod NextPieces
pub mod NextPlaces
pub mod Prefixes
pub mod RightRuns
pub mod RightSteps
pub mod RisingPlaces
pub mod Standings
pub mod StepNumbers
pub mod ThreadEnds
pub mod ThreadSteps
