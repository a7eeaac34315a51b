pub mod Bookings
pub mod Payments
pub mod Shapes
pub mod Triangles
