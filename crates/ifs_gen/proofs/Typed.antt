-- The kinds on the stack of the code of trees.
pub mod Trees
pub mod Blocks
