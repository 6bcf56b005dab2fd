mod GlobalOptionsLemmas
mod Generations
mod Starting
