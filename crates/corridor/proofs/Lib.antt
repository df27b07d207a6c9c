mod Slopes
mod Whens
mod Rule
mod Scan
mod Once
mod Made
mod Like
mod Spans
mod Held
mod Labels
pub mod Laws
