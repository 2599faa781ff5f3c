pub mod Folder
pub mod Opened
pub mod Picker
pub mod Sound
