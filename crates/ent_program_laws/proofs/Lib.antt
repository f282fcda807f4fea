pub mod Through
pub mod Terms
pub mod Selects
pub mod Entangled
pub mod Statements
pub mod UnplacedRuns
pub mod Books
pub mod FaultLists
pub mod TermFaults
pub mod Faults
pub mod EntangledFaults
pub mod ScriptFaults
pub mod OpeningFaults
pub mod Reports
pub mod Rows
pub mod Read
pub mod Values
pub mod Results
pub mod Changes
pub mod Offered
pub mod Leaving
pub mod Stored
pub mod Grounding
pub mod Stepping
pub mod Walking
pub mod Runs
pub mod Turns
pub mod Told
pub mod Opened
mod Texts
mod Quoting
mod Names
mod CharacterValues
mod Answers
mod Printed
mod Variables
mod CharacterTold
mod Carrying
mod Lexed
mod Literals
mod CharacterSelects
mod Entangling
mod CharacterRead
pub mod Written
pub mod Worth
pub mod Tables
pub mod Selected
pub mod Changed
pub mod CharacterOffered
pub mod CharacterLeaving
pub mod Ranged
pub mod CharacterGrounding
pub mod CharacterRuns
pub mod CharacterTurns
pub mod Entries
pub mod Shown
pub mod Again
pub mod Kept
pub mod Seen
pub mod Joints
pub mod Transactions
pub mod Counted
pub mod VerdictTables
pub mod Right
pub mod Bare
pub mod Main
mod Known
mod Fronts
mod Bindings
mod Lines
mod AnswerTexts
mod Scripts
mod Sorts
mod Steps
mod VerdictRuns
mod ThingLines
mod Verdicts
pub mod Fates
pub mod Committed
pub mod VerdictOpened
pub mod VerdictShown
pub mod Members
pub mod VerdictAgain
pub mod Reported
pub mod VerdictTold
pub mod Answered
mod Alike
mod Covering
mod Closed
mod Groups
mod Histories
mod Partners
mod Places
mod Ran
mod Seeing
pub mod Rising
pub mod Fated
pub mod FinishedRuns
pub mod FinishedOpened
pub mod Finished
pub mod FinishedKept
pub mod FinishedTold
