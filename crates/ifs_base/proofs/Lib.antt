mod Digits
pub mod Decimals
mod ReadBack
