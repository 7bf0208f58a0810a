pub mod Salvaging
