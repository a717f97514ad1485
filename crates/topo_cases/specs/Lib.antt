pub mod EditCases
pub mod Evidence
pub mod FalseCases
pub mod RegionEvidence
pub mod StepCases
pub mod SurvivingEvidence
