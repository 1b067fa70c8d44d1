pub mod Numbers
pub mod Options
pub mod Grammar
pub mod Settings
pub mod Views
