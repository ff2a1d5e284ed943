pub mod Centre
pub mod Search
pub mod Team
