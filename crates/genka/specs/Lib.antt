pub mod Genka
