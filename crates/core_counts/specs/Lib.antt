pub mod Totals
pub mod Nodes
pub mod Spending
pub mod Swept
