pub mod Hashes
pub mod Digests
pub mod HashedLaws
