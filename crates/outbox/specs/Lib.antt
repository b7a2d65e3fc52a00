pub mod Wires
pub mod Outs
