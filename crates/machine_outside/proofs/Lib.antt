pub mod KeptBytes
