pub mod Formula
pub mod Walks
pub mod Computed
pub mod Locality
pub mod Bridge
pub mod Untested
pub mod Removals
pub mod ByNumber
pub mod NumberClaims
pub mod Witnesses
pub mod SecondWitness
mod NumberWitness
mod ColumnWitness
mod StoppedWitness
