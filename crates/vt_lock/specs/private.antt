-- What only the lock's own steps and private functions cite.
pub mod StepsTell
