use Rattle.std.proofs.Common.{◌≡◌, ◌++◌, append-nil, nat_eq, ap, sym, ◌∙◌}
use Rattle.std.specs.List.{list_any}
use Rattle.txn_cells.specs.Kept.{Held, holds}
use Rattle.txn_cells.proofs.Holding.{bare_from}
use Rattle.txn_cells.proofs.Reserving.{found_by_key}
use Rattle.txn_cells.proofs.cells.Cells.numbers.Goals as goal

pub returns-then-len-eq0-clause-each : goal.returns-then-len-eq0-clause-each
returns-then-len-eq0-clause-each g c =
    let few = c.self.inside.few in
    let bare = bare_from c.self.inside.many (sym c.len.ensures ∙ c.if-len-eq0.true) in
    let is : few ≡ c.args.self.now = sym (append-nil few) ∙ ap (λ (h : Held _). few ++ h) (sym bare) ∙ c.self.view_is in
    λ u. ap (list_any (nat_eq u)) c.numbers.ensures.is ∙ sym (found_by_key (nat_eq u) few) ∙ ap (λ (h : Held _). holds h u) is
