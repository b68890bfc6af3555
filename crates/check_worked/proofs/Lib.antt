mod Worked
mod Terms
