-- Every run is sound.
pub mod Sound
