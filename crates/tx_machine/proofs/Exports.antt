-- What proofs of other crates may cite. Each other module of this folder is private.
-- A command over a file that was read has run as its inner call says.
pub use Rattle.tx_machine.proofs.Ran.{ran}
