pub mod CustomValues
pub mod ParameterParts
