pub mod SeenContents
pub mod SeenRows
pub mod Ends
pub mod Listed
pub mod Walks
