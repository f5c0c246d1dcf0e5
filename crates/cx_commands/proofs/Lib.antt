pub mod Four
pub mod Five
pub mod Yielded
pub mod CommandLemmas
pub mod MessageLemmas
pub mod UnreadLemmas
