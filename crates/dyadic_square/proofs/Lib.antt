pub mod Numbers
pub mod Bag
pub mod Tiling
pub mod Spans
pub mod Within
pub mod Trees
mod Bits
mod Moved
mod Held
mod Keys
pub mod Order
pub mod Walks
