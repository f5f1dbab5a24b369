pub mod SolverFunction
pub mod SolverModel
pub mod KeptModel
