pub mod MetLists
pub mod Listed
pub mod Trails
pub mod KeptScans
pub mod Queues
pub mod Expanding
pub mod Searching
pub mod Gathering
