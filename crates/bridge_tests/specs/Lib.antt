pub mod SampleLaws
pub mod RoundLaws
