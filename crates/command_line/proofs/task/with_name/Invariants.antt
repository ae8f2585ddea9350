use Rattle.std.specs.Prelude.{◌≡◌, map, take}
use Rattle.command_line.specs.Words.{with_name}
use Rattle.command_line.proofs.task.with_name.Given as goal

abbrev pub invariant-loop-word : goal.invariant-loop-word
invariant-loop-word l = map (λ word. word.now) l.all.items ≡ with_name (take l.word-index l.words)
