pub mod ChecksumLemmas
pub mod LsaLemmas
