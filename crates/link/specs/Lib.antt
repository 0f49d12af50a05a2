pub mod Calls
pub mod Transactions
pub mod Carryings
pub mod Runs
pub mod Law
pub mod Witness
