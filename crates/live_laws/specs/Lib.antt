pub mod OneLive
