pub mod CutsLemmas
pub mod Lists
