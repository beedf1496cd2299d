pub mod PlainChains
pub mod PlainHeaders
pub mod PlainTrails
