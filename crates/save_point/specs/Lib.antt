pub mod Laws
pub mod Reading
pub mod SavedTexts
pub mod Saving
