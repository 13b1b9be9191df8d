-- What is to be believed: stores, greedy moves, the claims and the promise.
pub mod House
pub mod Greedy
pub mod Claims
pub mod Promise
pub mod Spring
pub mod Wrong
pub mod Cheats
