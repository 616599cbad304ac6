pub mod ListLaws
pub mod KeyLaws
pub mod NetLaws
pub mod DropLaws
pub mod CancelLaws
pub mod BorderLaws
