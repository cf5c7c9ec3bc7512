pub mod Sets
pub mod Analysis
pub mod inner
