pub mod RowSteps
pub mod RowsSteps
pub mod PivotSteps
pub mod SettleSteps
pub mod BoardSteps
pub mod StartSteps
pub mod ListSteps
pub mod Comparing
