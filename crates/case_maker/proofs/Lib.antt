mod Draws
mod Squares
