-- What a tick goes by, and that its move and its report follow from it.
pub mod Outlook
pub mod Laws
