pub mod Order
pub mod Built
pub mod CompartmentLaws
pub mod ContributorLaws
pub mod Unions
