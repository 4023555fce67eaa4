mod Over
mod Stands
