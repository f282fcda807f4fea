mod Ends
mod Steps
pub mod LinesRead
mod AnswerLines
mod FrameLines
mod JointLines
mod OpeningLines
mod OpeningRows
mod OpeningSteps
mod TableLines
mod TransactionLines
mod Which
pub mod InLines
mod Schemas
mod Taking
mod BindingLines
mod MemberLines
mod ScriptLines
pub mod OneLine
pub mod Fronts
mod FirstPieces
pub mod ScriptSteps
mod Whole
mod WholeRead
mod Counted
pub mod Begun
mod ThingLines
