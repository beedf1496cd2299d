mod Places
mod Quiet
