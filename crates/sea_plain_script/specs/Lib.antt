pub mod Render
pub mod Script
pub mod ScriptReading
