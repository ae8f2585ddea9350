use Rattle.std.proofs.Common.{sym, ◌∙◌, arith}
use Rattle.txn_bytes.proofs.Ordered.{lengths_tell, words_tell}
use Rattle.txn_bytes.proofs.held.HeldOrd.cmp.Goals as goal

pub returns-then-other-le-WORD : goal.returns-then-other-le-WORD
returns-then-other-le-WORD g c =
    let s = c.self.inside in
    let t = c.other.inside in
    c.cmp.ensures
    ∙ sym (lengths_tell g.row.N s.len t.len s.bytes t.bytes c.args.self.now c.args.other.now c.self.invariant.0 c.other.invariant.0
    c.self.invariant.1 c.other.invariant.1 c.self.invariant.2 c.other.invariant.2 c.self.view_is c.other.view_is
    (sym c.compare_starts.ensures ∙ c.in-Equal.is) (omega (arith, c.if-self-le-WORD.true)) (omega (arith, c.if-other-le-WORD.true)))

pub returns-in_default : goal.returns-in_default
returns-in_default g c =
    let s = c.self.inside in
    let t = c.other.inside in
    sym (words_tell g.row.N s.len t.len s.bytes t.bytes c.args.self.now c.args.other.now c.self.invariant.0 c.other.invariant.0
    c.self.invariant.1 c.other.invariant.1 c.self.invariant.2 c.other.invariant.2 c.self.view_is c.other.view_is
    c.compare_starts.result (sym c.compare_starts.ensures) (λ e. c.in_default.not-Equal (sym e)))
