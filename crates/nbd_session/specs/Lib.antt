pub mod UnderWay
pub mod Piece
pub mod Serving
pub mod Session
pub mod Ending
