pub mod HexadecimalLemmas
pub mod PiecesLemmas
pub mod TextLemmas
