-- What each call of the language does, family by family.
pub mod Arguments
pub mod Deeds
pub mod EffectTable
pub mod FunctionCalls
pub mod LiveLoops
pub mod LoopCalls
pub mod MessageCalls
pub mod PatternCalls
pub mod PlayCalls
pub mod SettingCalls
pub mod ThreadCalls
pub mod TickCalls
pub mod TimeCalls
