-- What proofs of other crates may cite. Each other module of this folder is private.
-- Where the number at a place of a range passes a test, some number of the range does.
pub use Rattle.lock_table.proofs.Lists.{any_in_range}
-- Where one of the listed numbers passes a test, some number does.
pub use Rattle.lock_table.proofs.Lists.{any_of_those}
-- Where some item of a list passes a test, there is such an item.
pub use Rattle.lock_table.proofs.Lists.{witness}
