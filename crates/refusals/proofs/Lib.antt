pub mod Refusing
pub mod Answering
pub mod Work
pub mod Numbers
