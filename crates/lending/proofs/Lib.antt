pub mod Laying
pub mod WordsLaid
