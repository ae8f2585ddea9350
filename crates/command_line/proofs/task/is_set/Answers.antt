use Rattle.std.proofs.Common.{◌≡◌, ◌↔◌, Option, Some, IsTrue, codes, false, subst}
use Rattle.clap.specs.Words.{Text, found_of}
use Rattle.clap.proofs.WalkLemmas.{one_text-rows}
use Rattle.command_line.proofs.Flags.{read, unread}
use Rattle.command_line.proofs.task.is_set.Goals as goal

pub returns-in-Some : goal.returns-in-Some
returns-in-Some c =
    subst (λ (text : Option Text). IsTrue c.in-Some.set ↔ (text ≡ Some (codes "true")))
    (one_text-rows (found_of c.args.of.now) c.args.id.now)
    (read _ c.in-Some.set c.in-Some.ensures.none c.in-Some.ensures.value)

pub returns-in-None : goal.returns-in-None
returns-in-None c =
    subst (λ (text : Option Text). IsTrue false ↔ (text ≡ Some (codes "true")))
    (one_text-rows (found_of c.args.of.now) c.args.id.now)
    (unread _ (λ t is. (c.in-None.ensures.value t is).1.0))
