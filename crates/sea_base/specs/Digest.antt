-- SHA-256 (FIPS 180-4), for the crates above. No proof computes it.
pub use Rattle.sha2.specs.Sha256.{sha256}
