pub mod Interface
mod Entering
mod Legal
mod QuestionLaws
mod Responding
