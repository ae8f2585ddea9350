use Rattle.std.proofs.Common.{◌∙◌, arith}
use Rattle.txn_bytes.proofs.Fields.{fields_tell, starts_tell}
use Rattle.txn_bytes.proofs.held.HeldPartialEq.eq.Goals as goal

pub returns-then-self-le-WORD : goal.returns-then-self-le-WORD
returns-then-self-le-WORD g c =
    let s = c.self.inside in
    let t = c.other.inside in
    c.starts_alike.ensures
    ∙ starts_tell g.row.N s.len t.len s.bytes t.bytes c.args.self.now c.args.other.now
    (omega (arith, c.if-self-other.false)) c.self.invariant.2 c.other.invariant.2
    c.self.view_is c.other.view_is 8 (omega (arith, c.if-self-le-WORD.true))

pub returns-else-self-le-WORD : goal.returns-else-self-le-WORD
returns-else-self-le-WORD g c =
    let s = c.self.inside in
    let t = c.other.inside in
    c.eq.ensures
    ∙ fields_tell g.row.N s.len t.len s.bytes t.bytes c.args.self.now c.args.other.now
    (omega (arith, c.if-self-other.false)) c.self.invariant.2 c.other.invariant.2
    c.self.view_is c.other.view_is
