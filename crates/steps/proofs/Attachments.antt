-- The laws of `Attachments`.
pub mod Cases
pub mod Laws
