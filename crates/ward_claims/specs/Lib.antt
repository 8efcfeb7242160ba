pub mod WardRows
