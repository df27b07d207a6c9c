mod Pairs
mod Rows
