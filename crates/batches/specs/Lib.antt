pub mod Gathered
pub mod Adding
pub mod Laying
