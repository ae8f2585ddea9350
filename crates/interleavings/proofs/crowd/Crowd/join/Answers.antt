use Rattle.std.proofs.Common.{inl, inr, ⊎_elim, refl, sym, ◌∙◌}
use Rattle.interleavings.proofs.crowd.Crowd.join.Goals as goal

pub returns-then-takes : goal.returns-then-takes
returns-then-takes c u low gathered =
    ⊎_elim
    (λ same. inl (same, record { key = refl; depth = c.depth-self.ensures.depth }))
    (λ was.
    let at = c.takes.ensures c.if-takes.true u low was in
    let still = c.leave.ensures u was in
    inr (record {
      gathered = still.gathered;
      other = still.other;
      same = record { key = sym at.key ∙ still.same.key; depth = c.depth-self.ensures.depth ∙ sym at.depth ∙ still.same.depth };
    }))
    (c.without-self.ensures.lacks u gathered)
