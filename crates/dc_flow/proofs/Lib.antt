pub mod DcCases
pub mod Numbered
pub mod OutageLaws
pub mod Accepted
pub mod OutageFinite
pub mod BuildFinite
pub mod RetainedLaws
