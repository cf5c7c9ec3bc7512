pub mod TokenWords
