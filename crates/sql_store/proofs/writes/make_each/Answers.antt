use Rattle.std.proofs.lemmas.Int.{to_z-of_z}
use Rattle.std.proofs.Common.{Ok, Err, append_assoc, drop, rules, SFits, w64, ◌≡◌, ◌∙◌, ◌+◌, ◌++◌, ◌∷◌, [], List, ℕ, take, sym, ap, subst, arith}
use Rattle.std.proofs.lemmas.List.{take_more, take-append-drop}
use Rattle.txn_names.specs.declared.change.Change.{Change}
use Rattle.sql_store.specs.Asked.{Answers, MakesEach, EachGives, MakesChange, FailsToChange}
use Rattle.sql_store.specs.Calls.{IfInside}
use Rattle.sql_store.proofs.Answering.{answers_as}
use Rattle.sql_store.proofs.Pieces.{each_then}
use Rattle.sql_store.proofs.writes.make_each.Goals as goal

pub loop-change-preserved : goal.loop-change-preserved
loop-change-preserved g c =
    let old = c.args.tx.now.conn.now in
    let last = c.loop-change.tx.conn.now in
    let new = c.make.new.tx.conn.now in
    let changes : List Change = c.args.changes.now in
    let i : ℕ = c.loop-change.change-index in
    let d : Change = c.change-item.result in
    let more : take (i + 1) changes ≡ take i changes ++ d ∷ [] = take_more changes i d (omega arith) ∙ ap (λ w. take i changes ++ w ∷ []) (sym c.change-item.is) in
    let fits : SFits w64 c.args.number = c.ranges.number in
    let all = simp to_z-of_z at c.loop-change.invariant.asked in
    let made : Answers g.S.Store (MakesChange g.S.Store c.args.number d.key d.value) (FailsToChange g.S.Store c.args.number d.key d.value) last new (Ok tt) = simp to_z-of_z at c.in_ok-make.ensures.answers in
    let both = each_then g.S.Store c.args.number (take i changes) [] d c.loop-change.invariant.steps all made in
    record {
      same = c.make.ensures.same_reference ∙ c.loop-change.invariant.same;
      steps = both.steps;
      asked = simp to_z-of_z (subst (λ cs. IfInside g.S.Store old new (MakesEach g.S.Store c.args.number cs old new)) (sym more) both.asked);
    }

pub returns-in_err-make-clause-answers : goal.returns-in_err-make-clause-answers
returns-in_err-make-clause-answers g c =
    let old = c.args.tx.now.conn.now in
    let last = c.loop-change.tx.conn.now in
    let new = c.make.new.tx.conn.now in
    let changes : List Change = c.args.changes.now in
    let i : ℕ = c.loop-change.change-index in
    let d : Change = c.change-item.result in
    let more : take (i + 1) changes ≡ take i changes ++ d ∷ [] = take_more changes i d (omega arith) ∙ ap (λ w. take i changes ++ w ∷ []) (sym c.change-item.is) in
    let whole : changes ≡ take i changes ++ d ∷ drop (i + 1) changes =
    sym (take-append-drop (i + 1) changes) ∙ ap (λ l. l ++ drop (i + 1) changes) more ∙ append_assoc (take i changes) (d ∷ []) (drop (i + 1) changes) in
    let fits : SFits w64 c.args.number = c.ranges.number in
    let all = simp to_z-of_z at c.loop-change.invariant.asked in
    let e = c.in_err-make.field-0.0 in
    let gave : Answers g.S.Store (MakesChange g.S.Store c.args.number d.key d.value) (FailsToChange g.S.Store c.args.number d.key d.value) last new (Err e) = simp to_z-of_z at c.in_err-make.ensures.answers in
    let same : c.from_residual.result ≡ Err e = search rules in
    rw same (answers_as g.S.Store (λ h. h) (λ x h. subst (λ cs. EachGives g.S.Store c.args.number cs old new x) (sym whole) h)
    (each_then g.S.Store c.args.number (take i changes) (drop (i + 1) changes) d c.loop-change.invariant.steps all gave))
