pub mod Floors
pub mod Fractions
pub mod MendedQuotients
pub mod Numbers
pub mod Products
pub mod ReadBack
pub mod Remainders
pub mod Spellings
