-- What proofs of other crates may cite. Each other module of this folder is private.
-- Where the item at a place passes a test, some item does.
pub use Rattle.wait_graph.proofs.Passing.{any_got}
-- A test of all items before the next place is one of those before and of the item there.
pub use Rattle.wait_graph.proofs.Passing.{any_next}
