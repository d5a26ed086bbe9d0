pub mod Refusals
pub mod Grounds
pub mod Cases
