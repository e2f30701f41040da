mod Backwards
mod Costs
mod Marks
