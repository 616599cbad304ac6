pub mod ChainLaws
pub mod LevelLaws
pub mod SpanLaws
pub mod ArcLaws
pub mod RootLaws
pub mod NestLaws
pub mod VerdictLaws
pub mod RuleLaws
