pub mod BetaBinomial
pub mod Chances
pub mod ClosedForm
pub mod CorrelatedBinomial
pub mod Passes
pub mod Touching
