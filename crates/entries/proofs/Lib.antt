pub mod RecordsLaws
pub mod RecordBack
pub mod KronLaws
pub mod NumbersLaws
pub mod SinglesLaws
