pub mod Taking
pub mod Texts
pub mod Phase
pub mod ReadBack
