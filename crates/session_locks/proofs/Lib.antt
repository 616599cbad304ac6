mod LockedLaws
mod PassLaws
mod PartLaws
mod StepParts
mod FinishParts
mod FreeParts
mod TestLaws
