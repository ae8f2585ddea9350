-- What proofs of other crates may cite. Each other module of this folder is private.
-- The end of a run that was done, told by status and writers.
pub use Rattle.session_runs.proofs.Printed.{done}
-- The end of a run that was not done, told by its fault.
pub use Rattle.session_runs.proofs.Printed.{missed}
-- The status of a run accounts for its two writers.
pub use Rattle.session_runs.proofs.Printed.{run_accounts}
