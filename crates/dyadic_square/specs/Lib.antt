pub mod Order
pub mod Within
pub mod Walk
