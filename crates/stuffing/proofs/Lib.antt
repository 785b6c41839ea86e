pub mod Bytes
pub mod Laws
pub mod RoundTrip
pub mod Examples
pub mod Buffer
