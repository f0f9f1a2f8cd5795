pub mod Moving
pub mod Borrowed
pub mod OperandLaws
pub mod BorrowedLaws
pub mod Oks
pub mod Ready
