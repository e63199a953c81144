-- A trace has one reading; the worked sessions.
pub mod Decoding
pub mod Readings
pub mod PieceReadings
pub mod OneReading
pub mod Numbers
