-- A file that is written: a byte, CLOSE, a replacement, and a chain that is given up.
pub mod Finishes
pub mod Puts
pub mod Storing
pub mod Closing
pub mod GivenBack
pub mod Finishing
pub mod Replaced
pub mod Replacements
pub mod Sparing
pub mod GivingUp
