pub mod Sides
pub mod Making
pub mod Meanings
pub mod Windows
pub mod Finding
pub mod Levels
pub mod Schemes
pub mod Blocks
-- below: lemmas that each scheme keeps the rules, which nobody has to believe; they stand here since a ghost member cites specs/
pub mod Chosen
pub mod Lists
pub mod Tiled
pub mod Halves
pub mod Rows
