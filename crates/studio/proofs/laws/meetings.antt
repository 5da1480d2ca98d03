-- Where two instructions meet: the lowest place that two sets share, and the first of the meetings by manner, are those of the definition.
pub mod Tests
pub mod Masks
pub mod Finding
pub mod Bytes
pub mod Sharing
pub mod Numbers
pub mod Ordering
pub mod Naming
pub mod Listing
