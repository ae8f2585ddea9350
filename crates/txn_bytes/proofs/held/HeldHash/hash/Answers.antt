use Rattle.std.proofs.Common.{ℕ, List, [], ◌∷◌, sym, ap, ◌∙◌, arith}
use Rattle.std.specs.List.{fold}
use Rattle.txn_bytes.proofs.Fields.{word_fed}
use Rattle.txn_bytes.proofs.held.HeldHash.hash.Goals as goal

pub returns-in-Some : goal.returns-in-Some
returns-in-Some g c =
    let s = c.self.inside in
    let first = c.in-Some.ensures.cases in
    let is = word_fed g.row.N s.len s.bytes c.args.self.now c.self.invariant.1 c.self.invariant.2
    c.self.view_is first.enough (omega (arith, c.if-self-le-WORD.true)) in
    c.write_u64.ensures
    ∙ ap (fold g.H.Hasher.write c.args.state.now)
    (c.word_of.ensures.fed ∙ ap (λ (w : List ℕ). w ∷ []) first.same ∙ sym is)
