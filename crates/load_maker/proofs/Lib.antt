pub mod DrawLemmas
pub mod MadeLane
pub mod MadeLengths
pub mod MadePlan
pub mod MadeReadings
pub mod MadeReads
pub mod MadeValues
pub mod SizeLemmas
