mod MarkSteps
mod LoopSteps
