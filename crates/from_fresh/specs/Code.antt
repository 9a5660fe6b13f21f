pub mod ClearWindows
