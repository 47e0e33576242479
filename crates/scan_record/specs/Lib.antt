pub mod Asked
pub mod Scan
pub mod ScanGraph
pub mod Storage
