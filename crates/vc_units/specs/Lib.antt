pub mod Units
pub mod Reading
