pub mod Reach
pub mod Drawing
pub mod StoreMap
pub mod Laws
pub mod inner
