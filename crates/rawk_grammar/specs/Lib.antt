pub mod Context
pub mod Statement
pub mod Nests
pub mod Items
pub mod Grammar
pub mod Programs
pub mod Texts
pub mod Dangling
