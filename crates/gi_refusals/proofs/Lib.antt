mod Tallies
