pub mod SlicesBehind
pub mod Changes
pub mod Heard
pub mod ProbeCompletes
