pub mod HolderLaw
