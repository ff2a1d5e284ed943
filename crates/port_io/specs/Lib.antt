pub mod Faults
pub mod Bytes
pub mod SinkLaws
pub mod MemoryPorts
pub mod Whole
pub mod Output
pub mod Adapters
