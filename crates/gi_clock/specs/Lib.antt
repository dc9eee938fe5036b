pub mod Minutes
pub mod Handing
pub mod HeldRepr
