pub mod Cuts
pub mod Lexemes
