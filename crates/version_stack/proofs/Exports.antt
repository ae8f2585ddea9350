-- What proofs of other crates may cite. Each other module of this folder is private.
-- Whether a key is among some keys and one more.
pub use Rattle.version_stack.proofs.Base.{any_append}
