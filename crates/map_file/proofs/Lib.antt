mod InStep
mod NameSteps
mod PlaceSteps
mod ReadSteps
