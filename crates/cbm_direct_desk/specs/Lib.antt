pub mod DirectDesks
