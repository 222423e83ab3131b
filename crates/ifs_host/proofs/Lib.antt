mod Waiting
mod Reaping
mod Whole
