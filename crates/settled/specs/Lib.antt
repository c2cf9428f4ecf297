-- What a case is, and what it means that a wrong answer is ruled out; the conditions of the refusals in plain numbers.
pub mod Wrong
pub mod Conditions
