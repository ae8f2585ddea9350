-- What proofs of other crates may cite. Each other module of this folder is private.
-- The checker accepts the report of every finished run.
pub use Rattle.report_laws.proofs.Accepted.{every_report_is_accepted}
