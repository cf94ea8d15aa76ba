mod Loops
mod Adding
mod Parsing
mod Getters
