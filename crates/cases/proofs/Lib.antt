mod Readout
mod Words
