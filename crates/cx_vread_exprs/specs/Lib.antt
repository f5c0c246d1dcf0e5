pub mod Places
pub mod Tokens
pub mod Exprs
pub mod Passing
pub mod Deep
pub mod Numbers
pub mod Answers
pub mod Holds
