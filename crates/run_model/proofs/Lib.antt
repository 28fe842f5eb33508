mod Worked
mod WorkedScript
