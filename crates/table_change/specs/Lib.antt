pub mod ChangedKinds
pub mod OccursLaws
pub mod PutKindLaws
pub mod ChangedKindLaws
pub mod Given
