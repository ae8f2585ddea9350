-- What proofs of other crates may cite. Each other module of this folder is private.
-- A fault line accounts for a run that ends with status 1.
pub use Rattle.program_words.proofs.Told.{fault_accounts}
-- The answer to a flush at the end accounts for the status.
pub use Rattle.program_words.proofs.Told.{finish_accounts}
-- What holds anyway holds of an `Ok`.
pub use Rattle.program_words.proofs.Told.{if_ok}
-- The text on misuse accounts for status 2.
pub use Rattle.program_words.proofs.Told.{misuse_accounts}
