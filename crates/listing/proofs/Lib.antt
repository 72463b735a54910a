mod Texts
mod Places
