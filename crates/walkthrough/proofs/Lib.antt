pub mod RowEnds
