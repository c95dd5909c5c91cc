mod EscapedLengths
mod Rereading
