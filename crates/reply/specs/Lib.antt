pub mod Reply
pub mod Cases
