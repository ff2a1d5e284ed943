pub mod Feeds
pub mod Input
pub mod Coming
pub mod ReadSoFar
pub mod Stream
pub mod LineReading
