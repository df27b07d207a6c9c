pub mod Timetables
pub mod Entries
pub mod Rules
pub mod Timed
