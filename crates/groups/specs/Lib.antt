pub mod FactorLines
