mod Asking
mod FewTold
mod Grouped
mod PlanSteps
mod Shown
mod Steps
mod TableSteps
mod Untouched
