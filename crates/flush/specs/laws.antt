-- Laws of blocks and of flush.
pub mod SpaceLaws
pub mod SpaceSteps
pub mod FlushLaws
pub mod ListLaws
pub mod TallyLaws
pub mod WalkLaws
pub mod WriteLaws
pub mod BlockLaws
pub mod StepLaws
pub mod GoingLaws
pub mod OutcomeLaws
pub mod AllLaws
pub mod CallLaws
