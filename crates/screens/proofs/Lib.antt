-- Lemmas on screens.
mod Fitting
mod Ranges
mod Printing
mod Areas
mod Once
