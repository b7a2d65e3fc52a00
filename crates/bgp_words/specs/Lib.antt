pub mod Attributes
pub mod Capabilities
pub mod Bgp
