pub mod Asking
pub mod Reserves
