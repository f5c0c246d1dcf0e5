pub mod Commands
pub mod Asked
pub mod Lists
pub mod Reads
pub mod Stopping
pub mod Unread
pub mod Statuses
pub mod Messages
