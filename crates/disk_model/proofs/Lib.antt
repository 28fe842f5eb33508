pub mod DiskLemmas
pub mod IdentityLemmas
pub mod MomentsLemmas
pub mod SectorLemmas
