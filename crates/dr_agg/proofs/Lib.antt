pub mod KeyOrder
pub mod ColumnLaws
pub mod RollupLaws
pub mod FoldLaws
pub mod Rearranged
pub mod SoFar
pub mod Sorting
