pub mod Bodies
pub mod SetupWorlds
