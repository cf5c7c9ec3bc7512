pub mod Labelling
pub mod Marking
pub mod Vertices
pub mod Root
pub mod Showing
pub mod Directions
