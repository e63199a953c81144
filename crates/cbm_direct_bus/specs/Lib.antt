pub mod DirectBuses
