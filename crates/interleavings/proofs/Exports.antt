-- What proofs of other crates may cite. Each other module of this folder is private.
-- Two trails of questions to a store, one behind the other, are one.
pub use Rattle.interleavings.proofs.Trails.{trail_more}
-- A line of the text is found by its number.
pub use Rattle.interleavings.proofs.Numbers.{line_of_number}
-- Each session of a text has at most the lines of the limit.
pub use Rattle.interleavings.proofs.Numbers.{short}
-- Equal values in `Some` are equal.
pub use Rattle.interleavings.proofs.Numbers.{unsome}
-- A run that goes on where memory ran out goes on.
pub use Rattle.interleavings.proofs.Schedules.{goes_err}
-- A run that goes on, and then partly, goes on where memory ran out.
pub use Rattle.interleavings.proofs.Schedules.{goes_partly_err}
-- A run goes on to where it is.
pub use Rattle.interleavings.proofs.Schedules.{goes_same}
-- Two stretches of a run, one behind the other, are one.
pub use Rattle.interleavings.proofs.Schedules.{goes_still}
-- A core goes on to where it is.
pub use Rattle.interleavings.proofs.Schedules.{on_same}
-- Two stretches of a core, one behind the other, are one.
pub use Rattle.interleavings.proofs.Schedules.{on_still}
-- A run that broke off is told from the opening.
pub use Rattle.interleavings.proofs.Closed.{broken_off}
-- The rows of an opening have the numbers that the store had.
pub use Rattle.interleavings.proofs.Closed.{numbered_from}
-- What a run asked its store is told from the opening to the close.
pub use Rattle.interleavings.proofs.Closed.{was_asked}
-- An opening gives no more rows than the limit.
pub use Rattle.interleavings.proofs.Opened.{given_few}
