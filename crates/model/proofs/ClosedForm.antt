-- The laws of `ClosedForm`.
pub mod Laws
