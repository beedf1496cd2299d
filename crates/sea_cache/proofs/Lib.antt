mod Entries
