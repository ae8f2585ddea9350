use Rattle.std.proofs.Common.{◌≡◌, ◌+◌, ◌≤◌, Some, List, ℕ, [], ◌∷◌, ◌++◌, length, ap, ◌∙◌, arith}
use Rattle.serial_spec.specs.declared.entry.Answer.{Answer}
use Rattle.serial_spec.specs.declared.entry.Entry.{Entry}
use Rattle.event_lists.specs.Views.{answer_by, event_by, seen}
use Rattle.event_lists.specs.Lists.{Keeps, Listed, entries_of, name_at}
use Rattle.event_lists.proofs.Named.{entries_and, found, notes_and}
use Rattle.event_lists.proofs.entries.Entries.push.Goals as goal

pub invariant_of-self : goal.invariant_of-self
invariant_of-self c =
    let before = c.self.inside in
    let names : List (List (List ℕ)) = c.number_of_top-top.new.names.items in
    let keeps : Keeps before.names.items names = λ n t at. c.number_of_top-top.ensures.keeps n t (c.number_of-name.ensures.keeps n t at) in
    let at = c.number_of-name.ensures.at ∙ ap (λ (t : List (List ℕ)). Some t) c.of-word.ensures.value in
    let own = c.number_of_top-top.ensures.keeps c.number_of-name.result c.args.entry.now.event.name.now at in
    let first : length c.number_of-name.new.self.items ≤ length before.names.items + 1 = c.number_of-name.ensures.len in
    let second : length names ≤ length c.number_of-name.new.self.items + 1 = c.number_of_top-top.ensures.len in
    let room : c.number_of_top-top.new.names.capacity ≡ before.names.capacity = c.number_of_top-top.ensures.capacity ∙ c.number_of-name.ensures.capacity in (
      rw (c.push_reserved.ensures.items, c.follow.ensures)
          (notes_and before.names.items names before.notes.items _ keeps c.self.invariant.0 ((c.args.entry.now.event.name.now, own), c.number_of_top-top.ensures.named)),
      omega (arith, c.self.invariant.1, c.push_reserved.ensures.len, c.push_reserved.ensures.capacity, c.requires),
      rw c.follow.ensures (omega (arith, c.self.invariant.2, first, second, room, ap (λ (l : Listed). l.room) c.self.view_is, c.requires)),
    )

pub returns-clause-entries : goal.returns-clause-entries
returns-clause-entries c =
    let before = c.self.inside in
    let entry = c.args.entry.now in
    let names : List (List (List ℕ)) = c.number_of_top-top.new.names.items in
    let keeps : Keeps before.names.items names = λ n t at. c.number_of_top-top.ensures.keeps n t (c.number_of-name.ensures.keeps n t at) in
    let at = c.number_of-name.ensures.at ∙ ap (λ (t : List (List ℕ)). Some t) c.of-word.ensures.value in
    let own = c.number_of_top-top.ensures.keeps c.number_of-name.result entry.event.name.now at in
    rw (c.push_reserved.ensures.items, c.follow.ensures)
    (entries_and before.names.items names before.notes.items _ keeps c.self.invariant.0
    ∙ ap (λ (t : List (List ℕ)). entries_of before.names.items before.notes.items ++ (record { by = entry.by; event = event_by t entry.event.act.now; answer = answer_by entry.said (name_at names c.number_of_top-top.result) }) ∷ []) (found names c.number_of-name.result entry.event.name.now own)
    ∙ ap (λ (a : Answer). entries_of before.names.items before.notes.items ++ (record { by = entry.by; event = event_by entry.event.name.now entry.event.act.now; answer = a }) ∷ []) c.number_of_top-top.ensures.told
    ∙ ap (λ (es : List Entry). es ++ seen entry ∷ []) (ap (λ (l : Listed). l.entries) c.self.view_is))
