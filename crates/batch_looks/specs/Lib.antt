pub mod Foreign
