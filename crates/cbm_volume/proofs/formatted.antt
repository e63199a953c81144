-- NEW.
pub mod NewHeads
pub mod NewDisks
pub mod StoppedNews
