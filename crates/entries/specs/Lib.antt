pub mod Records
pub mod RecordBack
pub mod Answers
pub mod Kron
pub mod Numbers
pub mod Studies
pub mod Singles
