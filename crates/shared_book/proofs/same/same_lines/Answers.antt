use Rattle.std.proofs.Common.{◌≡◌, Some, None, option_map, ap, ◌∙◌, sym, arith}
use Rattle.serial_spec.specs.declared.event.Event.{Event}
use Rattle.event_lists.specs.Views.{asked}
use Rattle.session_text.specs.Texts.{line_at}
use Rattle.shared_book.proofs.Equal.{ended, line_within, up_to}
use Rattle.shared_book.proofs.same.same_lines.Goals as goal

pub loop-line-smaller : goal.loop-line-smaller
loop-line-smaller c =
    omega (arith, line_within c.args.a.now c.args.session c.loop-line.line (asked c.in-Some.own) c.loop-line.invariant.text c.loop-line.invariant.line.0 c.in-Some.ensures)

pub loop-line-preserved : goal.loop-line-preserved
loop-line-preserved c =
    let within = line_within c.args.a.now c.args.session c.loop-line.line (asked c.in-Some.own) c.loop-line.invariant.text c.loop-line.invariant.line.0 c.in-Some.ensures in
    let here : line_at c.args.a.now c.args.session c.loop-line.line ≡ line_at c.args.b.now c.args.session c.loop-line.line =
    sym c.in-Some.ensures ∙ ap (λ (e : Event). Some e) (c.same_text.ensures.0 c.if-same_text.true) ∙ c.in-Some-line.ensures in
    record {
      text = c.loop-line.invariant.text;
      line = (omega arith, omega (arith, within));
      same = up_to (λ i. line_at c.args.a.now c.args.session i ≡ line_at c.args.b.now c.args.session i) c.loop-line.line c.loop-line.invariant.same here;
    }

pub returns : goal.returns
returns c =
    let a_ends : line_at c.args.a.now c.args.session c.loop-line.line ≡ None = sym c.line.ensures ∙ ap (option_map asked) c.in_default.is in
    ended c.args.a.now c.args.b.now c.args.session c.loop-line.line c.loop-line.invariant.line.0 c.loop-line.invariant.same a_ends
    c.line-2.result c.is_none.result c.line-2.ensures c.is_none.ensures
