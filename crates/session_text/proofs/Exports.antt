-- What proofs of other crates may cite. Each other module of this folder is private.
-- What holds of all items and of one more holds of all of the longer list.
pub use Rattle.session_text.proofs.Growth.{all_pushed}
-- A session is found by its label at its place.
pub use Rattle.session_text.proofs.Places.{places_found}
-- A line that is added to a session with room keeps the text within its bounds.
pub use Rattle.session_text.proofs.Growing.{line_keeps_text}
-- A line that is added keeps the number of sessions.
pub use Rattle.session_text.proofs.Growing.{same_count}
-- A session with a free label keeps the text within its bounds.
pub use Rattle.session_text.proofs.Growing.{session_keeps_text}
