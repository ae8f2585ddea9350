use Rattle.std.proofs.Common.{option_copied, sym, ap, ◌∙◌}
use Rattle.event_lists.specs.Views.{asked}
use Rattle.interleavings.proofs.Calls.{free_unless_access, free_where_none_waits, came_retried, waits_unless_free}
use Rattle.interleavings.proofs.attempt.attempt.Goals as goal

pub attempt_free-requires : goal.attempt_free-requires
attempt_free-requires g c = record {
  free = free_where_none_waits c.args.manager.now.history c.args.by (asked c.args.event.now) (c.nobody_waits.ensures.0 c.if-nobody_waits.true) c.requires.next;
}

pub attempt_free-requires-in_default : goal.attempt_free-requires-in_default
attempt_free-requires-in_default g c = record {
  free =
      free_unless_access c.args.manager.now.history c.args.by (asked c.args.event.now) (sym c.accessor.ensures ∙ ap option_copied c.in_default.is) c.requires.next;
}

pub returns-else-free-clause-ok : goal.returns-else-free-clause-ok
returns-else-free-clause-ok g c =
    let m = c.args.manager.now in
    came_retried g.S.TopStore m c.ask_again.new.self c.args.by (asked c.args.event.now) c.in-Some.name.now (sym c.in-Some.ensures)
    (waits_unless_free m.history c.args.by (asked c.args.event.now) c.free.result c.free.ensures c.if-free.false c.requires.next)
    c.ask_again.result c.ask_again.ensures.ok
