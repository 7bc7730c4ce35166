mod Lots
mod OneLot
mod TwoRoots
