pub mod Places
pub mod LiveOrders
pub mod LiveTurns
pub mod LiveLines
pub mod LiveTexts
pub mod LiveLaws
