use Rattle.std.proofs.Common.{List, ℕ, [], ◌∷◌, ◌++◌, ap, ◌∙◌}
use Rattle.serial_spec.specs.declared.event.Event.{Event}
use Rattle.event_lists.specs.Views.{event_by}
use Rattle.event_lists.specs.Lists.{Keeps, events_of}
use Rattle.event_lists.specs.Words.{named}
use Rattle.event_lists.proofs.Named.{events_and, found, named_and}
use Rattle.event_lists.proofs.events.Events.push.Goals as goal

pub invariant_of-self-2 : goal.invariant_of-self-2
invariant_of-self-2 c =
    let before = c.self.inside in
    let names : List (List (List ℕ)) = c.number_for-name.new.names.items in
    let keeps : Keeps before.names.items names = rw c.in_ok-reserve.ensures.items at c.number_for-name.ensures.keeps in
    rw (c.push_reserved.ensures.items, c.in_ok-reserve_one.ensures.items, c.follow.ensures)
    (named_and before.names.items names before.asked.items _ keeps c.self.invariant (named c.args.word.now, c.number_for-name.ensures.at))

pub returns-clause-ok : goal.returns-clause-ok
returns-clause-ok c =
    let before = c.self.inside in
    let names : List (List (List ℕ)) = c.number_for-name.new.names.items in
    let act = c.args.act.now in
    let keeps : Keeps before.names.items names = rw c.in_ok-reserve.ensures.items at c.number_for-name.ensures.keeps in
    rw (c.push_reserved.ensures.items, c.in_ok-reserve_one.ensures.items, c.follow.ensures)
    (events_and before.names.items names before.asked.items _ keeps c.self.invariant
    ∙ ap (λ (t : List (List ℕ)). events_of before.names.items before.asked.items ++ event_by t act ∷ []) (found names c.number_for-name.result (named c.args.word.now) c.number_for-name.ensures.at)
    ∙ ap (λ (es : List Event). es ++ event_by (named c.args.word.now) act ∷ []) c.self.view_is)
