pub mod Hypergraph
pub mod Tree
pub mod KindPlan
pub mod Candidate
