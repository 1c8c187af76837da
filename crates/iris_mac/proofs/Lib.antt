mod Differences
mod KeyBlocks
mod Pieces
