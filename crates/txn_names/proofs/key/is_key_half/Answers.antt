use Rattle.std.proofs.Common.{rules}
use Rattle.txn_names.specs.Text.{is_key_byte}
use Rattle.txn_names.proofs.KeyBytes.{each_of_four}
use Rattle.txn_names.proofs.key.is_key_half.Goals as goal

pub returns : goal.returns
returns c = rw (c.is_key_byte.ensures, c.is_key_byte-2.ensures, c.is_key_byte-3.ensures, c.is_key_byte-4.ensures)
    (each_of_four is_key_byte c.args.half.now (search rules))
