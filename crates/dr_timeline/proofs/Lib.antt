pub mod Pinning
pub mod Times
pub mod Spans
pub mod RangePlaces
pub mod SegmentNumbers
pub mod ShownSegments
pub mod ShownRows
pub mod PartialAnswers
pub mod Numbering
pub mod Keeping
pub mod Standing
pub mod SealedImages
pub mod Placing
pub mod Working
pub mod Worked
mod Ordered
pub mod Asking
