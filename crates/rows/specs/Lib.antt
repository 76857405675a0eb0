pub mod Tables
pub mod InTables
pub mod Governed
