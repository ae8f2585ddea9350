use Rattle.std.proofs.Common.{◌↔◌, IsTrue, List, reverse, sym, subst}
use Rattle.serial_spec.specs.declared.entry.Entry.{Entry}
use Rattle.event_lists.specs.Views.{asked}
use Rattle.txn_history.specs.Tables.{IsAt}
use Rattle.std.proofs.lemmas.List.{reverse-reverse}
use Rattle.txn_history.proofs.States.{use_waits, use_used, use_unused, use_lineless}
use Rattle.txn_history.proofs.history.History.line_use.Goals as goal

pub returns-then-is_wait_with : goal.returns-then-is_wait_with
returns-then-is_wait_with c =
    let inside = c.self.inside in
    rw (sym c.self.view_is)
    (use_waits (reverse inside.entries.entries) c.args.by (asked c.args.event.now) c.in-Line.session c.in-Line.line c.in-Some.state c.is_wait_with.result
    c.in-Line.is (c.in-Some.ensures (reverse inside.entries.entries) c.self.invariant.0) (subst (λ (es : List Entry). IsTrue c.is_wait_with.result ↔ IsAt es c.in-Some.state (asked c.args.event.now)) (sym (reverse-reverse inside.entries.entries)) c.is_wait_with.ensures)
    c.if-is_wait_with.true)

pub returns-else-is_wait_with : goal.returns-else-is_wait_with
returns-else-is_wait_with c =
    let inside = c.self.inside in
    rw (sym c.self.view_is)
    (use_used (reverse inside.entries.entries) c.args.by (asked c.args.event.now) c.in-Line.session c.in-Line.line c.in-Some.state c.is_wait_with.result
    c.in-Line.is (c.in-Some.ensures (reverse inside.entries.entries) c.self.invariant.0) (subst (λ (es : List Entry). IsTrue c.is_wait_with.result ↔ IsAt es c.in-Some.state (asked c.args.event.now)) (sym (reverse-reverse inside.entries.entries)) c.is_wait_with.ensures)
    c.if-is_wait_with.false)

pub returns-in-None : goal.returns-in-None
returns-in-None c =
    let inside = c.self.inside in
    rw (sym c.self.view_is)
    (use_unused (reverse inside.entries.entries) c.args.by (asked c.args.event.now) c.in-Line.session c.in-Line.line
    c.in-Line.is (c.in-None.ensures (reverse inside.entries.entries) c.self.invariant.0))

pub returns-in_default : goal.returns-in_default
returns-in_default c = use_lineless c.args.self.now.entries c.args.by (asked c.args.event.now) c.in_default.not-Line
