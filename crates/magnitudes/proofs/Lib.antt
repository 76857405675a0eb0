pub mod LineEffects
