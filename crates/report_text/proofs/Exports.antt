-- What proofs of other crates may cite. Each other module of this folder is private.
-- The checker's verdict on a report of a run is yes.
pub use Rattle.report_text.proofs.Accepted.{accepted}
