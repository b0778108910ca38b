mod Levels
mod Bodies
mod Telling
