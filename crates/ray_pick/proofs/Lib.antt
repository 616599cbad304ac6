mod WideNumbers
mod Determinants
mod Meets
mod PickSteps
