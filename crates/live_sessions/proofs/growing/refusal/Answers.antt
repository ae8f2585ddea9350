use Rattle.std.proofs.Common.{suc, is_some, sym, ap, ◌∙◌, arith}
use Rattle.serial_spec.specs.Interleaving.{answered}
use Rattle.interleavings.proofs.Exports.{unsome}
use Rattle.live_sessions.proofs.Grown.{next_there, tells_full, tells_room, tells_turn}
use Rattle.live_sessions.proofs.growing.refusal.Goals as goal

pub unwrap-next-requires : goal.unwrap-next-requires
unwrap-next-requires g c =
    let at = c.next.ensures ∙ next_there c.args.sessions.now c.args.progress.now c.requires c.args.label.now c.in-Some.session (sym c.place.ensures ∙ c.in-Some.is) in
    ap is_some at

pub returns-then-next-count : goal.returns-then-next-count
returns-then-next-count g c =
    let ss = c.args.sessions.now in
    let p = c.args.progress.now in
    let s = c.in-Some.session in
    let place = sym c.place.ensures ∙ c.in-Some.is in
    let next = unsome c.unwrap-next.result (suc (answered p.core.history s)) (sym c.unwrap-next.ensures ∙ c.next.ensures ∙ next_there ss p c.requires c.args.label.now s place) in
    tells_turn ss p.core.history s place (omega (arith, next, c.line_count-count.ensures, c.if-next-count.true))

pub returns-then-count-lt-MOST_LINES : goal.returns-then-count-lt-MOST_LINES
returns-then-count-lt-MOST_LINES g c =
    let ss = c.args.sessions.now in
    let p = c.args.progress.now in
    let s = c.in-Some.session in
    let place = sym c.place.ensures ∙ c.in-Some.is in
    let next = unsome c.unwrap-next.result (suc (answered p.core.history s)) (sym c.unwrap-next.ensures ∙ c.next.ensures ∙ next_there ss p c.requires c.args.label.now s place) in
    tells_room ss p.core.history s place (omega (arith, next, c.line_count-count.ensures, c.if-next-count.false))
    (omega (arith, c.line_count-count.ensures, c.if-count-lt-MOST_LINES.true))

pub returns-else-count-lt-MOST_LINES : goal.returns-else-count-lt-MOST_LINES
returns-else-count-lt-MOST_LINES g c =
    let ss = c.args.sessions.now in
    let p = c.args.progress.now in
    let s = c.in-Some.session in
    let place = sym c.place.ensures ∙ c.in-Some.is in
    let next = unsome c.unwrap-next.result (suc (answered p.core.history s)) (sym c.unwrap-next.ensures ∙ c.next.ensures ∙ next_there ss p c.requires c.args.label.now s place) in
    tells_full ss p.core.history s place (omega (arith, next, c.line_count-count.ensures, c.if-next-count.false))
    (omega (arith, c.line_count-count.ensures, c.if-count-lt-MOST_LINES.false))
