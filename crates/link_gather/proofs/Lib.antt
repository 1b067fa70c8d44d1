pub mod FillingLaws
pub mod NewLaws
pub mod Places
