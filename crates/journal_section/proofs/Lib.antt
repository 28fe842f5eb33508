pub mod PiecesLemmas
pub mod PlaceLemmas
pub mod ShapeLemmas
pub mod EntriesLemmas
pub mod SectorsLemmas
pub mod FieldsLemmas
pub mod ViewLemmas
pub mod PutLemmas
pub mod JoinedLemmas
pub mod ToldLemmas
mod Worked
