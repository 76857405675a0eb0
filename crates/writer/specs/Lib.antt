pub mod Writable
pub mod FormWritten
