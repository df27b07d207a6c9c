mod Passing
mod Readying
