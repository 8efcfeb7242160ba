pub mod ReiAnswers
pub mod ReiCases
pub mod TieLaws
pub mod ReiNumbers
pub mod ReiFinite
pub mod Numbered
