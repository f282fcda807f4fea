mod Lines
mod Parts
