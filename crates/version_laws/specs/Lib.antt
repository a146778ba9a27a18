pub mod RowVersions
pub mod ShapeVersions
