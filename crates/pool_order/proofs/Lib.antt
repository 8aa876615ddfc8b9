pub mod Firsts
pub mod Places
pub mod EnteredOnce
pub mod Grounded
pub mod Pending
pub mod Walked
pub mod Stays
