mod Accepted
mod Drawn
mod Standings
