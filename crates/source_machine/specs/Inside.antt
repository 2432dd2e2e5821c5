-- Words of private contracts and of what is true of every machine. What is promised doesn't rest on them.
pub mod Entries
pub mod Turns
pub mod Stacks
pub mod Firsts
pub mod Standing
pub mod Sound
