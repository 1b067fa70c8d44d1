pub mod Units
pub mod FirstPictures
pub mod Growing
pub mod Contents
pub mod PackedMore
