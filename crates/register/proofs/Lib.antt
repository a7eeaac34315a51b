pub mod Booked
pub mod Last
pub mod Laying
pub mod Growing
pub mod Walking
pub mod Kept
pub mod Listing
