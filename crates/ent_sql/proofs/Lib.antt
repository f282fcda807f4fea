mod Loops
mod Foreseen
mod Items
mod Exact
mod Places
