pub mod Changes
pub mod Forms
pub mod Laws
