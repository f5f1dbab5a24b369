pub mod Held
pub mod PullLaws
pub mod WeakDuality
