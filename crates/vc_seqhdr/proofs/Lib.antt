pub mod HeaderParts
