mod Folds
mod Made
mod MatrixSteps
mod Told
