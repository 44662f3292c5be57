pub mod ValuesSaid
pub mod BothWays
