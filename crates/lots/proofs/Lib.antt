mod RowLists
mod OneLot
mod SlotWrites
mod Opened
mod Putting
mod StoreSteps
mod Planned
pub mod Keeping
