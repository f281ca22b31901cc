mod HandleValues
mod Values
