use Rattle.std.proofs.Common.{◌≡◌, ℕ, ◌+◌, suc, length, Bool, Option, refl, sym, ap, subst, ◌∙◌, arith}
use Rattle.report_check.specs.Passing.{with_label, may_follow, session_of}
use Rattle.report_tables.specs.Spoken.{Tells, line_entry, IsNumbered}
use Rattle.report_judge.proofs.Following.{line_follows, line_full, line_not_next, on_ok_both}
use Rattle.report_judge.proofs.seen.take_answer.Goals as goal

pub returns-in_default-clause-kept : goal.returns-in_default-clause-kept
returns-in_default-clause-kept c r kept at event =
    line_full r.history (session_of r.labels c.args.label.now) c.args.line c.args.event.now c.args.answer.now (sym kept.closing ∙ c.if-seen.false)
    (subst (λ (o : Option ℕ). IsNumbered r.labels c.args.label.now r.history o c.session_number.new.sessions.entries) c.in_default.is (c.in_ok-number.ensures r.labels r.history kept.sessions))

pub returns-then-not-take_line-clause-kept : goal.returns-then-not-take_line-clause-kept
returns-then-not-take_line-clause-kept c r kept at event =
    let l = c.args.label.now in
    let n = c.in-Some.number in
    let e = c.args.event.now in
    let a = c.args.answer.now in
    let numbered = subst (λ (o : Option ℕ). IsNumbered r.labels l r.history o c.session_number.new.sessions.entries) c.in-Some.is (c.in_ok-number.ensures r.labels r.history kept.sessions) in
    let tells = subst (λ (b : Bool). Tells b (with_label r.labels l) r.history n c.args.line e a c.take_line.new.sessions.entries) c.if-not-take_line.true
    (c.take_line.ensures (with_label r.labels l) r.history numbered.sessions event numbered.within) in
    ap (λ s. may_follow r.history (line_entry s c.args.line e a)) (sym numbered.number)
    ∙ line_not_next r.history n c.args.line e a (sym kept.closing ∙ c.if-seen.false) numbered.allowed tells

pub returns-clause-kept : goal.returns-clause-kept
returns-clause-kept c =
    on_ok_both c.take_effect.result _ _ _ c.take_effect.ensures.effect c.take_effect.ensures.same
    (λ ok effect same r kept at event.
    let l = c.args.label.now in
    let n = c.in-Some.number in
    let e = c.args.event.now in
    let a = c.args.answer.now in
    let numbered = subst (λ (o : Option ℕ). IsNumbered r.labels l r.history o c.session_number.new.sessions.entries) c.in-Some.is (c.in_ok-number.ensures r.labels r.history kept.sessions) in
    let tells = subst (λ (b : Bool). Tells b (with_label r.labels l) r.history n c.args.line e a c.take_line.new.sessions.entries) c.if-not-take_line.false
    (c.take_line.ensures (with_label r.labels l) r.history numbered.sessions event numbered.within) in
    let line : c.args.at ≡ (1 + length r.opening) + suc (length r.history) = omega (arith, at) in
    line_follows r c.args.seen.now _ l n c.args.line e a c.session_number.new.sessions.entries kept c.if-seen.false numbered tells refl refl same ok
    (effect (1 + length r.opening) r.history kept.transactions line))
