pub mod Explained
pub mod Agree
pub mod Equivalent
pub mod Reachable
pub mod RunsExplained
pub mod LentCalls
