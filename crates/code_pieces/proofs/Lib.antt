pub mod AllowedInstructions
pub mod Heights
pub mod ItemPlaces
pub mod MachineFollows
pub mod PieceBlocks
pub mod PieceParts
pub mod PieceShapes
pub mod WholePrograms
