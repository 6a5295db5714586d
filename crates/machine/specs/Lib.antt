-- The plain machine of demand 3, on lists alone: its calls, steps and runs, when and how a notice was scheduled, and worked examples.
pub mod Machine
pub mod Calls
pub mod Operands
pub mod Steps
pub mod Run
pub mod History
pub mod Worked
pub mod WorkedHistory
