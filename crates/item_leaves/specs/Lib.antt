pub mod ItemLeaves
