mod Showings
