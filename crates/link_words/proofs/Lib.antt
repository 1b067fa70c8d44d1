mod Digits
mod Places
mod Slices
pub mod Texts
