pub mod Evening
pub mod Fitting
pub mod Judgements
pub mod Restarting
