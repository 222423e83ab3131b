mod Cuts
mod Fronts
mod KindLists
mod Lexing
mod Parted
mod Shorter
mod Stops
mod Values
