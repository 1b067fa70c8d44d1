pub mod RowsOfRasters
pub mod Fields
