mod Beginnings
mod Stats
