mod Slots
mod Traces
