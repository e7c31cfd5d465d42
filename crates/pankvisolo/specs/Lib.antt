pub mod Replies
pub mod Recovery
pub mod Decoding
pub mod Runs
pub mod Lives
