pub mod Rules
mod FoundThings
mod Judged
