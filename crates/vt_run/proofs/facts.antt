-- What is known of arguments, events, names, locals and blocks.
pub mod ArgumentFacts
pub mod BlocksOfTexts
pub mod DeedFacts
pub mod EventFacts
pub mod Fitting
pub mod InputFacts
pub mod Known
pub mod LoopFacts
pub mod NameFacts
pub mod NoteFacts
pub mod OperatorFacts
pub mod PairFacts
pub mod PatternFacts
pub mod TextFacts
pub mod TextsKept
pub mod TimedFacts
pub mod TreeFacts
