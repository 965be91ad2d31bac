pub mod Shown
pub mod Done
pub mod Change
pub mod Nodes
pub mod StoredTree
pub mod How
