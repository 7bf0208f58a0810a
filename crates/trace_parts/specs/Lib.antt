pub mod Layout
pub mod Contents
pub mod Body
