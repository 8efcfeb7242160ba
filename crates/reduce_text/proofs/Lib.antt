mod Cases
pub mod NumberSizes
pub mod LineLaws
pub mod PrintLaws
pub mod ReadLaws
pub mod Fit
pub mod Room
pub mod ReduceLaws
pub mod Numbered
pub mod Cutting
pub mod Prefix
