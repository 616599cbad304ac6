pub mod Asking
pub mod AskingLaws
pub mod Questions
pub mod LinkStores
