mod HandleValues
mod Values
mod Outcomes
