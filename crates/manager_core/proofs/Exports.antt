-- What proofs of other crates may cite. Each other module of this folder is private.
-- Opening rows are as many from either form.
pub use Rattle.manager_core.proofs.Opening.{as_many}
-- Two lines with the same session and number are one line.
pub use Rattle.manager_core.proofs.Waits.{same_by}
-- An outcome that came to a wait is one.
pub use Rattle.manager_core.proofs.Facts.{waits_of}
