pub mod Ascii
pub mod Line
pub mod Table
pub mod Cases
