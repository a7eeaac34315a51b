pub mod Arguments
pub mod Draws
pub mod Leftover
pub mod Samples
pub mod Shares
pub mod Size
