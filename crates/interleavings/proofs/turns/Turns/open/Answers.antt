use Rattle.interleavings.proofs.LeftOut.{all_ready}
use Rattle.interleavings.proofs.Numbers.{first_turns}
use Rattle.interleavings.proofs.turns.Turns.open.Goals as goal

pub invariant_of-result : goal.invariant_of-result
invariant_of-result g c =
    rw (c.in-Ok-on_the_heap.ensures.ok, c.in-Ok.ensures, c.len.ensures.len) (
      first_turns c.args.sessions.now c.in_ok-manager.manager c.in_ok-manager.ensures.ok.history c.in_ok-manager.ensures.sound.quiet c.in_ok-manager.ensures.ok.few,
      all_ready c.in_ok-manager.manager.rows c.args.sessions.now c.in_ok-manager.manager.history c.all.result c.len.ensures.text.few c.all.ensures.out c.all.ensures.idle c.all.ensures.crowd,
    )

pub returns-in-Ok-on_the_heap-clause-way : goal.returns-in-Ok-on_the_heap-clause-way
returns-in-Ok-on_the_heap-clause-way g c = (invariant_of-result g c).0.way
