use Rattle.std.proofs.Common.{◌≡◌, length}
use Rattle.std.specs.List.{list_all}
use Rattle.txn_names.specs.Text.{is_key_byte}
use Rattle.txn_names.proofs.key.are_key_bytes.Given as goal

-- what is left decides, as the whole does
abbrev pub invariant-loop-word : goal.invariant-loop-word
invariant-loop-word l = list_all is_key_byte l.rest ≡ list_all is_key_byte l.bytes

abbrev pub decreases-loop-word : goal.decreases-loop-word
decreases-loop-word l = length l.rest
