pub mod Apart
mod ModeLaws
