use Rattle.std.proofs.Common.{◌≡◌, ◌+◌, ◌-◌, length}
use Rattle.report_judge.proofs.Remaining.{compared_by}
use Rattle.report_judge.proofs.lines.last_pass.Goals as goal

pub returns : goal.returns
returns c =
    let n = length c.args.table.now in
    let first : c.saturating_sub-first.result ≡ c.args.after - (1 + n) = c.saturating_sub-first.ensures in
    compared_by c.args.values.now.entries c.sort_keys.new.self.entries c.args.table.now (c.args.after - (1 + n)) c.saturating_sub-first.result c.compare.result
    c.in_ok-sort_keys.ensures.sorted c.sort_keys.ensures.unique c.sort_keys.ensures.reordered.2 first c.compare.ensures
