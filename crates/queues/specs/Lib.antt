-- What the contracts of queues cite beside the model.
pub mod Segments
pub mod Queues
pub mod Sound
