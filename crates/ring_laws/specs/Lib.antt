pub mod Products
pub mod Ring
