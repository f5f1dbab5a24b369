-- The laws: of searches and sums, of pivots, of a basis and its board, of the rule's turns, of the
-- trail and of its answers.
pub mod BoundedSumLaws
pub mod SearchLaws
pub mod PivotLaws
pub mod InverseLaws
pub mod BasisLaws
pub mod BoardLaws
pub mod ValueLaws
pub mod RuleLaws
pub mod TurnLaws
pub mod AgreementLaws
pub mod StandingLaws
pub mod EndLaws
pub mod TrailLaws
pub mod OutcomeLaws
pub mod AnswerLaws
