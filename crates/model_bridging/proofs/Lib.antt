mod InOrder
mod KindSteps
mod Telling
mod Others
mod ModelSteps
mod FoundSteps
