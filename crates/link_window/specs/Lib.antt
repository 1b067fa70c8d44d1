pub mod Openings
pub mod Hearing
pub mod Pasts
pub mod PictureJobs
pub mod Views
pub mod Places
