mod Corridors
