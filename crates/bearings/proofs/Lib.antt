pub mod Axes
pub mod Clearing
pub mod Rounding
pub mod Inequalities
pub mod Shapes
pub mod Refusing
pub mod Measures
pub mod Sizes
