pub mod SingleElements
