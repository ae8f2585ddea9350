-- What proofs of other crates may cite. Each other module of this folder is private.
-- What was read of words is asked for by them; where nothing was, they ask for nothing.
pub use Rattle.command_line.proofs.Refusing.{asked, unasked}
-- Words in which `clap` finds a fault ask for no task.
pub use Rattle.command_line.proofs.Refusing.{refused}
-- Words that ask for a run, or for something else that one thread does, ask for no replay.
pub use Rattle.command_line.proofs.Refusing.{run_asked, other_asked}
-- The runs that words ask for are by one word for the number of workers, and where one thread is to do something there is none.
pub use Rattle.command_line.proofs.Refusing.{one_count, alone_asked}
