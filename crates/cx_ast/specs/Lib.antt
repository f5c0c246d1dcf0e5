pub mod PlainTokens
pub mod PlainGuards
pub mod PlainStatements
pub mod PlainTree
