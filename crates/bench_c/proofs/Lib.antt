-- The numbers of an answer in the lent array, and how tight the contracts are.
pub mod Laying
pub mod Tight
