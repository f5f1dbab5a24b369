mod ChangedSteps
mod FoundSteps
