pub mod Dump
pub mod Laws
pub mod Refusal
pub mod Written
