mod Turns
mod Judging
mod Composing
