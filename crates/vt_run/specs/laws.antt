-- What holds of every thread, and the words in which that is said.
pub mod NoteLaws
pub mod SequenceLaws
pub mod StandingLaws
pub mod StartLaws
pub mod StepFacts
pub mod StepLaws
