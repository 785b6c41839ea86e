pub mod Rehastim2
