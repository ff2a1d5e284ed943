mod FirstPiece
mod FirstField
pub mod ReadBack
pub mod NumbersBack
pub mod LineLengths
