-- What proofs of other crates may cite. Each other module of this folder is private.
-- A database may move to another thread.
pub use Rattle.sql_store.proofs.Crossing.{database_send}
