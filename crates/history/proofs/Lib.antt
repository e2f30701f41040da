pub mod LastPlaces
pub mod Views
