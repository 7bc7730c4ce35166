mod Printed
mod Wholes
mod Layers
mod LineTexts
mod Visible
mod CondLayers
mod ItemLayers
mod Fronts
mod Signs
mod Apart
mod Back
mod Sections
mod Tokens
mod Exact
mod Again
mod Spelled
mod Keywords
pub mod Door
