pub mod Words
pub mod Bodies
pub mod Items
pub mod Standing
pub mod Files
