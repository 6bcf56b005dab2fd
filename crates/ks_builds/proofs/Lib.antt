mod Between
mod Backdated
mod Stories
mod Adopted
mod Marked
