-- What the machines of a bus are handed under any host, and what they say.
pub mod Later
pub mod Knowing
pub mod OneHearing
pub mod Voices
pub mod Spelling
pub mod Hearers
pub mod Handing
pub mod Handed
