pub mod Powers
mod KnownOperators
pub mod OperatorLaws
pub mod BitVectorLemmas
