pub mod PlacesLemmas
pub mod RunLemmas
pub mod RestLemmas
pub mod TakingLemmas
pub mod FindLemmas
pub mod AwaitingLemmas
pub mod LawsLemmas
pub mod PositionLemmas
pub mod HeadLemmas
pub mod StepLemmas
pub mod KeptLemmas
pub mod AllLemmas
pub mod AllWithBitmapLemmas
pub mod FieldsLemmas
pub mod Worked
pub mod WorkedWithBitmap
mod ScratchServes
