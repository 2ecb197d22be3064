pub mod Nonempty
