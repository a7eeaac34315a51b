pub mod Empty
pub mod Flat
pub mod Paged
pub mod Pages
