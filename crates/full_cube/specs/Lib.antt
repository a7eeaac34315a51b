pub mod Figures
pub mod Requests
