pub mod Pieces
pub mod View
pub mod Fields
pub mod SectionLaws
