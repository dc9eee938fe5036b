mod Building
mod FirstFacts
mod Numerals
