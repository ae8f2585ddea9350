-- What proofs of other crates may cite. Each other module of this folder is private.
-- A history of a text is one of each text that extends it, as long as it is open at the end.
pub use Rattle.growing_sessions.proofs.Growth.{growth_keeps}
-- No line of a new session is answered.
pub use Rattle.growing_sessions.proofs.Growth.{new_session_unanswered}
-- A history that is open at the end stays so by a round.
pub use Rattle.growing_sessions.proofs.Growth.{round_stays_open}
-- A history that is open at the end stays so by a step.
pub use Rattle.growing_sessions.proofs.Growth.{step_stays_open}
-- Two growths, one behind the other, are one growth.
pub use Rattle.growing_sessions.proofs.Lines.{growths_join}
-- A line that is added at the end of a session extends the text.
pub use Rattle.growing_sessions.proofs.Lines.{line_extends}
-- A session that is added at the end extends the text.
pub use Rattle.growing_sessions.proofs.Lines.{session_extends}
-- A history of sessions with the same labels is spelled the same.
pub use Rattle.growing_sessions.proofs.Spelled.{history_reads_same}
