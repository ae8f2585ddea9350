-- What proofs of other crates may cite. Each other module of this folder is private.
-- Where one part was cut off, a beginning of it and of what was to come is written.
pub use Rattle.txn_bytes.proofs.Appending.{cut_before}
-- Bytes that were written are a proper beginning where more was to come.
pub use Rattle.txn_bytes.proofs.Appending.{front_of}
-- A fault that `?` hands on is that of the part before.
pub use Rattle.txn_bytes.proofs.Appending.{handed_on}
-- A writer that keeps its contents adds nothing to what was written before.
pub use Rattle.txn_bytes.proofs.Appending.{kept}
-- What holds anyway holds of an `Err`.
pub use Rattle.txn_bytes.proofs.Appending.{on_err}
-- Two parts, one printed behind the other, are printed as one.
pub use Rattle.txn_bytes.proofs.Appending.{puts_then}
-- Two writes, one behind the other, write both texts.
pub use Rattle.txn_bytes.proofs.Appending.{then}
-- A whole write and then a beginning of another text are a beginning of both.
pub use Rattle.txn_bytes.proofs.Appending.{then_front}
-- A whole write and then one that may have failed are a beginning of both where it failed.
pub use Rattle.txn_bytes.proofs.Appending.{then_on_err}
-- A whole write and then one that may have failed are both where it did not fail.
pub use Rattle.txn_bytes.proofs.Appending.{then_on_ok}
-- One more piece from a reader is one more call, and its bytes stand behind those before.
pub use Rattle.txn_bytes.proofs.Sourcing.{given_more}
-- A read that filled a part of its buffer gave some bytes.
pub use Rattle.txn_bytes.proofs.Sourcing.{is_some}
-- A reader that was asked nothing has given nothing.
pub use Rattle.txn_bytes.proofs.Sourcing.{none_read}
-- What two calls of a reader gave is what both took off its rest.
pub use Rattle.txn_bytes.proofs.Sourcing.{part_read}
-- A reader that gave nothing where more was wanted was read to its end.
pub use Rattle.txn_bytes.proofs.Sourcing.{whole_read}
