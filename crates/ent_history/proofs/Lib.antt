pub mod Lists
pub mod Opened
mod Reported
pub mod RuleLists
pub mod Alike
pub mod Found
pub mod Accounts
pub mod Commits
pub mod Bridge
pub mod Journals
pub mod Operations
pub mod Replays
pub mod Joints
pub mod Tables
pub mod Legal
pub mod Sound
pub mod Steps
mod Fates
mod Bindings
mod Counts
pub mod Listing
pub mod Names
mod Columns
mod Openings
mod Scripts
mod HeadLines
mod JointLines
pub mod InLine
pub mod Staying
pub mod Lines
pub mod Cut
pub mod Filled
pub mod Begun
pub mod BreaksOff
pub mod Twice
pub mod Kept
pub mod Alone
