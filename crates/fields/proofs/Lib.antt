mod Taking
mod Ending
