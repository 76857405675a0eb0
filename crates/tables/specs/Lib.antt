pub mod ChainsRead
