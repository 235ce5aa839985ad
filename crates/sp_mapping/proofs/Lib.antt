mod Cores
mod Missing
