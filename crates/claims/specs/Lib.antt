pub mod Accounts
pub mod Chains
pub mod Finite
pub mod Untested
pub mod Removals
pub mod ByNumber
