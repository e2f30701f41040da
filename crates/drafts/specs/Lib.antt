pub mod Plans
pub mod Rightly
pub mod Carrying
pub mod Views
pub mod DraftViews
