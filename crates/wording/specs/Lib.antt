pub mod Days
pub mod Money
