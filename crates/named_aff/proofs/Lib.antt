mod Apart
mod Linear
