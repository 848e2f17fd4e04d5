pub mod NodeBytes
