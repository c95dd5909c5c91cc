mod Crossing
mod Hearing
mod Planned
mod RunLaws
