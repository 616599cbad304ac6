pub mod FetchWords
pub mod RuleSteps
pub mod WordLaws
pub mod WholeTurns
