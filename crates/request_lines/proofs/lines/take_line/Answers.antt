use Rattle.std.proofs.Common.{◌≡◌, ◌≢◌, ◌==◌, ℕ, false, List, [], Result, Ok, Err, OnErr, sym, ap, subst, ◌∙◌, length}
use Rattle.std.proofs.lemmas.Bool.{eqb-true, eqb-false}
use Rattle.request_lines.specs.Taking.{Takes}
use Rattle.request_lines.proofs.Lining.{ends_at_end, ends_at_feed, stops_at_fault, way_next, way_over}
use Rattle.request_lines.proofs.lines.take_line.Goals as goal

on_err : {A E : Type 0} (r : Result A E) (P : Type 0) → P → OnErr r P
on_err (Ok x) P p = tt
on_err (Err e) P p = p

is_some : (ys : List ℕ) → (length ys == 0) ≡ false → ys ≢ []
is_some ys e none = absurd (eqb-false (length ys) 0 e (ap (λ (zs : List ℕ). length zs) none))

pub returns-then-hand_over-clause-ok : goal.returns-then-hand_over-clause-ok
returns-then-hand_over-clause-ok g c =
    subst (Takes _ _ _ _ _) (sym c.at_feed.ensures)
    (ends_at_feed _ c.args.input.now c.args.piece.now c.loop-call._call c.loop-call.input
    c.loop-call.piece c.hand_over.new.self c.loop-call.line c.hand_over.new.line
    c.args.line.now.kept c.loop-call.invariant c.if-hand_over.ensures)

pub returns-in_err-fill-clause-err : goal.returns-in_err-fill-clause-err
returns-in_err-fill-clause-err g c =
    let over = way_over _ c.args.input.now c.args.piece.now c.loop-call._call c.loop-call.input
    c.loop-call.piece c.loop-call.line c.hand_over.new.line c.loop-call.invariant
    c.if-hand_over.ensures.0 c.if-hand_over.ensures.2 in
    on_err c.from_residual.result _
    (stops_at_fault _ c.args.input.now c.args.piece.now c.loop-call._call c.loop-call.input
    c.fill.new.input c.fill.new.self c.hand_over.new.line c.args.line.now.kept over
    c.in_err-fill.ensures.err.0 c.in_err-fill.ensures.err.1)

pub returns-then-is_empty-clause-ok : goal.returns-then-is_empty-clause-ok
returns-then-is_empty-clause-ok g c =
    let over = way_over _ c.args.input.now c.args.piece.now c.loop-call._call c.loop-call.input
    c.loop-call.piece c.loop-call.line c.hand_over.new.line c.loop-call.invariant
    c.if-hand_over.ensures.0 c.if-hand_over.ensures.2 in
    let none = eqb-true (length c.fill.new.self) 0
    (sym c.is_empty.ensures ∙ c.if-is_empty.true) in
    subst (Takes _ _ _ _ _) (sym c.at_end.ensures)
    (ends_at_end _ c.args.input.now c.args.piece.now c.loop-call._call c.loop-call.input
    c.fill.new.input c.fill.new.self c.hand_over.new.line c.args.line.now.kept over
    c.in_ok-fill.ensures.ok none)

pub loop-call-preserved : goal.loop-call-preserved
loop-call-preserved g c =
    let over = way_over _ c.args.input.now c.args.piece.now c.loop-call._call c.loop-call.input
    c.loop-call.piece c.loop-call.line c.hand_over.new.line c.loop-call.invariant
    c.if-hand_over.ensures.0 c.if-hand_over.ensures.2 in
    way_next _ c.args.input.now c.args.piece.now c.loop-call._call c.loop-call.input
    c.fill.new.input c.fill.new.self c.hand_over.new.line over c.in_ok-fill.ensures.ok
    (is_some c.fill.new.self (sym c.is_empty.ensures ∙ c.if-is_empty.false))
