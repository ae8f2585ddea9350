use Rattle.std.proofs.Common.{refl}
use Rattle.std.specs.Map.{keys_of}
use Rattle.report_judge.proofs.Stepping.{seen_none}
use Rattle.report_judge.proofs.seen.Seen.new.Goals as goal

pub returns : goal.returns
returns c = seen_none _ refl c.new-2.ensures.empty c.new-4.ensures.empty (c.in_ok-transactions.ensures 1 (record { keys = keys_of c.new-2.result.entries; groups = keys_of c.new-3.result.entries })) refl c.new-5.ensures.items
