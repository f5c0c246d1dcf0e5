pub mod Ordered
pub mod Comments
pub mod Written
pub mod Sources
pub mod SharedTexts
pub mod Alike
pub mod PromotedTexts
pub mod NoLater
