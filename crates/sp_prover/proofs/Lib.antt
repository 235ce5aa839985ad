mod Checking
mod Cutting
mod Finding
mod Firsts
mod Formulas
mod Places
mod Spelled
