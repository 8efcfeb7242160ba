pub mod BytesLaws
pub mod RoundTrip
pub mod BytesCases
