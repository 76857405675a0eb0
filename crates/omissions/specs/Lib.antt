pub mod ChainTables
pub mod Chained
