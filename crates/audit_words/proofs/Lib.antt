pub mod EachWord
pub mod ManyWords
