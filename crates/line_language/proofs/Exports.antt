-- What proofs of other crates may cite. Each other module of this folder is private.
-- No byte of a list is this one.
pub use Rattle.line_language.proofs.Bytes.{Lacks}
-- Two lists that lack a byte lack it together.
pub use Rattle.line_language.proofs.Bytes.{Lacks-append}
-- Bytes that pass a test lack a byte which does not pass it.
pub use Rattle.line_language.proofs.Bytes.{Lacks-from_all}
-- A cut at a separator gives the word before it and the cut of the rest.
pub use Rattle.line_language.proofs.Bytes.{cut_behind}
-- Bytes without a separator are cut into one word.
pub use Rattle.line_language.proofs.Bytes.{cut_lacking}
-- A cut gives one word at least.
pub use Rattle.line_language.proofs.Bytes.{cut_some}
-- Words that were cut are joined to the bytes again.
pub use Rattle.line_language.proofs.Bytes.{joined_cut}
-- What an operation leaves of a number is a number.
pub use Rattle.line_language.proofs.Operations.{left_is}
-- The reply at a number is one that the operation may have.
pub use Rattle.line_language.proofs.Operations.{reply_fits}
-- The word of an operation is no longer than the longest.
pub use Rattle.line_language.proofs.Operations.{word_length}
-- The operands of an access, as words.
pub use Rattle.line_language.proofs.Reading.{access_operands}
-- A chain of two results is `Ok` where both are.
pub use Rattle.line_language.proofs.Reading.{bind_ok}
-- What is read as an event is an event, and the bytes are its spelling.
pub use Rattle.line_language.proofs.Reading.{event_reads}
-- The test of a word and what it says.
pub use Rattle.line_language.proofs.Reading.{is_word}
-- A label is read as itself.
pub use Rattle.line_language.proofs.Reading.{label_again}
-- Bytes that are read as a label are that label.
pub use Rattle.line_language.proofs.Reading.{label_reads}
-- A fault of a line is no event.
pub use Rattle.line_language.proofs.Reading.{not_word}
-- An option made a result is `Ok` where it was there.
pub use Rattle.line_language.proofs.Reading.{ok_or_ok}
-- One operand is read where one word stands.
pub use Rattle.line_language.proofs.Reading.{one_reads}
-- A case split on the outcome of a test.
pub use Rattle.line_language.proofs.Reading.{pick}
-- Equal values in `Ok` are equal.
pub use Rattle.line_language.proofs.Reading.{same_ok}
-- The words of a command line.
pub use Rattle.line_language.proofs.Reading.{words_of}
-- A byte that stands between words and in none of them.
pub use Rattle.line_language.proofs.Spelled.{IsGap}
-- The spelling of an event is cut into its words.
pub use Rattle.line_language.proofs.Spelled.{cut_event}
-- The digits of a number have no separator.
pub use Rattle.line_language.proofs.Spelled.{decimal_lacks}
-- The spelling of an event is read as that event.
pub use Rattle.line_language.proofs.Spelled.{event_again}
-- The spelling of an event has no line feed.
pub use Rattle.line_language.proofs.Spelled.{event_lacks}
-- No label has a separator.
pub use Rattle.line_language.proofs.Spelled.{label_lacks}
-- The line feed stands in no word.
pub use Rattle.line_language.proofs.Spelled.{line_feed}
-- The space stands in no word.
pub use Rattle.line_language.proofs.Spelled.{space}
-- The spelling of an entry is no longer than the longest entry.
pub use Rattle.line_language.proofs.Longest.{entry_short}
-- The spelling of a number is no longer than the longest number.
pub use Rattle.line_language.proofs.Longest.{length-number}
-- Bytes without a separator have nothing behind one.
pub use Rattle.line_language.proofs.Parts.{before_lacking}
-- A row that is spelled is read back.
pub use Rattle.line_language.proofs.Rows.{rows_read_back}
-- An entry that is spelled is read back.
pub use Rattle.line_language.proofs.Entries.{entries_read_back}
