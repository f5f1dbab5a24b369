pub mod GoodCertificates
pub mod LeastProducts
pub mod Trails
