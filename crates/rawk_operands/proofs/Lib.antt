pub mod BorrowedLemmas
