mod NewWorld
mod Numbers
mod RunLaws
mod SimulationLaws
mod TraceLaws
mod OnItsWay
mod SoundSimulation
mod Indented
