pub mod InForce
pub mod Laws
pub mod Reporting
