mod Chains
mod Forms
