pub mod Chains
mod Between
