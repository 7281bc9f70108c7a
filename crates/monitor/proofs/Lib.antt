pub mod Children
pub mod EveryRun
pub mod Exactly
pub mod PlaysAs
pub mod QuestionsAnswered
