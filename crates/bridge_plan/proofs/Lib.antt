mod Made
pub mod Left
mod Covers
mod KeptLists
mod Agreeing
mod Opened
mod ItemCases
mod Nodes
mod Outer
mod NodeSteps
mod Places
mod NamedLaws
mod SortedEntries
