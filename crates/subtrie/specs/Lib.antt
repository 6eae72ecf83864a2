pub mod Below
pub mod Order
pub mod Laws
