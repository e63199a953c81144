mod Parties
mod Rests
mod Headline
mod Again
