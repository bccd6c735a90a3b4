pub mod Bodies
pub mod Cuts
pub mod Rows
pub mod Items
pub mod Numbers
pub mod Again
pub mod Sent
pub mod CutIs
pub mod Exact
pub mod ExactRows
pub mod ExactBodies
pub mod ExactItems
pub mod Values
pub mod Fits
mod OneItem
mod ExactOneItem
