use Rattle.std.proofs.Common.{◌≡◌, ◌<◌, ◌≤◌, ℕ, Some, ⊎_elim, sym, ap, subst, ◌∙◌, arith}
use Rattle.std.specs.Int.{bit_at}
use Rattle.std.specs.Prelude.{slice_get}
use Rattle.std.proofs.lemmas.Bool.{cases_eq, cases_lt}
use Rattle.std.proofs.lemmas.Option.{get_or_from_slice_get}
use Rattle.serial_spec.specs.declared.entry.By.TheVariants.{Line, Victim, Close}
use Rattle.manager_core.specs.declared.looks.Look.{Look}
use Rattle.manager_core.specs.Looked.{IsApart}
use Rattle.manager_core.proofs.looks.Looks.forget_under.Goals as goal
use Rattle.manager_core.proofs.looks.Looks.forget_under.Goals.{then-not-still_stands, else-not-still_stands}

pub loop-session-preserved : goal.loop-session-preserved
loop-session-preserved c =
    let i = c.loop-session.invariant in
    let found = c.in-Some.ensures.some in
    let Apart : Look → Type 0 = λ look. IsApart c.args.tree.now c.args.txn look.txn look.keeper in
    let before : (s : ℕ) (look : Look) → s < c.in-Some.session → bit_at c.loop-session.self.stands s ≡ 1 → slice_get c.loop-session.self.last s ≡ Some look → Apart look =
    λ s look less is at. ⊎_elim
    (λ (gone : s < c.loop-session.from). i.apart s look gone is at)
    (λ (past : c.loop-session.from ≤ s). absurd (omega (arith, found.3 s past less, is)))
    (cases_lt s c.loop-session.from) in
    elim c.if-not-still_stands.branch [
      | then-not-still_stands w ↦
          let left = w.without-self.ensures.has in
          rw w.self-is (record {
            last = i.last;
            stood = λ s is. i.stood s (left s is).0;
            apart = λ s look less is at.
                let was = left s is in
                before s look (omega (arith, less, was.1)) was.0 at;
          })
      | else-not-still_stands w ↦
          let own = c.still_stands.ensures w.if-not-still_stands.false in
          rw w.self-is (record {
            last = i.last;
            stood = λ s is. i.stood s is;
            apart = λ s look less is at. ⊎_elim
                (λ (same : s ≡ c.in-Some.session).
                let here : slice_get c.loop-session.self.last c.in-Some.session ≡ Some look = subst (λ n. slice_get c.loop-session.self.last n ≡ Some look) same at in
                subst Apart (get_or_from_slice_get c.loop-session.self.last c.in-Some.session look c.index-self-session.result here) own)
                (λ (other : s ≡ c.in-Some.session → ⊥). before s look (omega (arith, less, other)) is at)
                (cases_eq s c.in-Some.session);
          })
    ]

pub returns : goal.returns
returns c (Line s l) n m has =
    let i = c.loop-session.invariant in
    let look : Look = record { txn = n; line = l; keeper = m } in
    ⊎_elim
    (λ (gone : s < c.loop-session.from). ((i.stood s has.0, ap (λ xs. slice_get xs s) (sym i.last) ∙ has.1), i.apart s look gone has.0 has.1))
    (λ (past : c.loop-session.from ≤ s). absurd (omega (arith, c.in_default.ensures.none s past, has.0)))
    (cases_lt s c.loop-session.from)
returns c Victim n m has = absurd has
returns c Close n m has = absurd has
