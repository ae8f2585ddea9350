use Rattle.std.proofs.Common.{◌<◌, length, refl, ◌∙◌, arith}
use Rattle.manager_core.proofs.Victims.{no_cause, victim_kept, victim_tables}
use Rattle.manager_core.proofs.breaking.abort_victim.Goals as goal

pub returns-clause-entries : goal.returns-clause-entries
returns-clause-entries c =
    let name = c.args.name.now in
    let some : 0 < length name = omega (arith, c.has_labels.ensures.some) in
    let none = c.abort.ensures.cause ∙ no_cause _ _ c.requires.allowed name c.requires.is_victim _ c.requires.are.in_tree some in
    rw (c.add.ensures.entries, c.of-outcome.ensures, none) refl

pub returns-clause-are : goal.returns-clause-are
returns-clause-are c =
    let name = c.args.name.now in
    let some : 0 < length name = omega (arith, c.has_labels.ensures.some) in
    let none = c.abort.ensures.cause ∙ no_cause _ _ c.requires.allowed name c.requires.is_victim _ c.requires.are.in_tree some in
    victim_tables _ _ c.requires.allowed name c.requires.is_victim _ _ c.requires.are (rw none at c.abort.ensures.aborts)

pub returns-clause-fewer : goal.returns-clause-fewer
returns-clause-fewer c =
    let name = c.args.name.now in
    let some : 0 < length name = omega (arith, c.has_labels.ensures.some) in
    let none = c.abort.ensures.cause ∙ no_cause _ _ c.requires.allowed name c.requires.is_victim _ c.requires.are.in_tree some in
    let kept = victim_kept _ _ c.requires.allowed name c.requires.is_victim _ c.requires.are in
    c.abort.ensures.fewer none kept.number kept.below kept.waits
