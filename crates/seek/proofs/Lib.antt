pub mod AtAddress
pub mod BottomUp
pub mod Found
pub mod InBlock
