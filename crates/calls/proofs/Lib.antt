pub mod SameCalls
pub mod Derived
pub mod Plans
pub mod Values
pub mod Seen
pub mod Verdict
pub mod AnswerLists
