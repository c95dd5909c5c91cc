pub mod Judged
pub mod Alike
pub mod Told
pub mod Laws
