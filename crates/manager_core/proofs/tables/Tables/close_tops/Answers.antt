use Rattle.std.proofs.Common.{◌≤◌, length, refl, ◌∙◌, ap, subst, arith}
use Rattle.std.proofs.lemmas.Map.Entries.{length-keys_of}
use Rattle.txn_tree.specs.States.{names}
use Rattle.txn_tree.specs.Siblings.{IsFirst, IsNext, is_sibling_at, is_top_at}
use Rattle.manager_core.specs.Tables.{Tabled}
use Rattle.manager_core.proofs.Named.{got}
use Rattle.manager_core.proofs.Tops.{closing_from, room_for, marks_room_for, closed_one, passed_one, all_closed}
use Rattle.manager_core.proofs.TopsInTurn.{at_first, at_next, end_at, fewer_after, first_is_top, here_at, next_is_top, top_here, top_still, top_within}
use Rattle.manager_core.proofs.tables.Tables.close_tops.Goals as goal
use Rattle.manager_core.proofs.tables.Tables.close_tops.Goals.{in-Some-live_top_at, in_default-live_top_at}

pub loop-top-init : goal.loop-top-init
loop-top-init c =
    let first = subst (λ (t : Tabled). IsFirst (is_top_at t.tree) c.first_top-top.result) c.self.view_is c.first_top-top.ensures.first in
    record {
      rows = refl;
      far = at_first _ _ _ _ _ _ c.first_top-top.result first (closing_from _ _ _ _ c.requires.legal c.requires.quiet c.requires.are c.requires.room c.requires.marks_room);
      is_top = first_is_top _ c.first_top-top.result first;
    }

pub close_top-requires-clause-room : goal.close_top-requires-clause-room
close_top-requires-clause-room c =
    let far = here_at _ _ _ _ _ _ c.loop-top.top c.in-Some.txn c.in-Some.is c.loop-top.invariant.far in
    room_for _ _ _ _ _ _ _ far c.in-Some-live_top_at.name c.in-Some-live_top_at.ensures.some.0 c.in-Some-live_top_at.ensures.some.1

pub close_top-requires-clause-marks_room : goal.close_top-requires-clause-marks_room
close_top-requires-clause-marks_room c =
    let far = here_at _ _ _ _ _ _ c.loop-top.top c.in-Some.txn c.in-Some.is c.loop-top.invariant.far in
    marks_room_for _ _ _ _ _ _ _ far c.in-Some-live_top_at.name c.in-Some-live_top_at.ensures.some.0 c.in-Some-live_top_at.ensures.some.1

pub loop-top-smaller : goal.loop-top-smaller
loop-top-smaller c =
    let top = top_here _ c.loop-top.top c.in-Some.txn c.in-Some.is c.loop-top.invariant.is_top in
    let next = subst (λ (t : Tabled). IsNext (is_sibling_at t.tree c.in-Some.txn) c.in-Some.txn c.next_sibling-top.result) c.self-in-Some-2.view_is c.next_sibling-top.ensures in
    elim c.match-live_top_at.branch [
      | in-Some-live_top_at w ↦
          let same = ap (λ (t : Tabled). names t.tree) w.self-is ∙ w.close_top.ensures.aborts.same_names in
          fewer_after c.loop-top.self.tree c.match-live_top_at.self.tree c.in-Some.txn c.next_sibling-top.result c.loop-top.top same c.in-Some.is top next
      | in_default-live_top_at w ↦
          let same = ap (λ (t : Tabled). names t.tree) w.self-is in
          fewer_after c.loop-top.self.tree c.match-live_top_at.self.tree c.in-Some.txn c.next_sibling-top.result c.loop-top.top same c.in-Some.is top next
    ]

pub loop-top-preserved : goal.loop-top-preserved
loop-top-preserved c =
    let so_far = c.loop-top.invariant in
    let far = here_at _ _ _ _ _ _ c.loop-top.top c.in-Some.txn c.in-Some.is so_far.far in
    let here = top_here _ c.loop-top.top c.in-Some.txn c.in-Some.is so_far.is_top in
    elim c.match-live_top_at.branch [
      | in-Some-live_top_at w ↦
          let told = w.in-Some-live_top_at.ensures.some in
          let closed = closed_one _ _ _ _ _ _ _ far w.in-Some-live_top_at.name told.0 told.1
          w.close_top.new.self w.close_top.new.log.room w.close_top.ensures.aborts w.close_top.ensures.room w.close_top.ensures.marks_room in
          let top = top_still c.loop-top.self.tree w.close_top.new.self.tree c.in-Some.txn w.close_top.ensures.aborts.same_names here in
          let next = subst (λ (t : Tabled). IsNext (is_sibling_at t.tree c.in-Some.txn) c.in-Some.txn c.next_sibling-top.result) (c.self-in-Some-2.view_is ∙ w.self-is) c.next_sibling-top.ensures in
          rw (w.log-is, w.self-is) record {
            rows = w.close_top.ensures.rows ∙ so_far.rows;
            far = rw (w.close_top.ensures.entries, w.close_top.ensures.rows) (at_next _ _ _ _ _ _ c.in-Some.txn c.next_sibling-top.result top next closed);
            is_top = next_is_top w.close_top.new.self.tree c.in-Some.txn c.next_sibling-top.result top next;
          }
      | in_default-live_top_at w ↦
          let name = got (names c.loop-top.self.tree) c.in-Some.txn (top_within c.loop-top.self.tree c.in-Some.txn here) in
          let passed = passed_one _ _ _ _ _ _ _ far name.0 name.1 (w.in_default-live_top_at.ensures.none name.0 name.1) in
          let next = subst (λ (t : Tabled). IsNext (is_sibling_at t.tree c.in-Some.txn) c.in-Some.txn c.next_sibling-top.result) (c.self-in-Some-2.view_is ∙ w.self-is) c.next_sibling-top.ensures in
          rw (w.log-is, w.self-is) record {
            rows = so_far.rows;
            far = at_next _ _ _ _ _ _ c.in-Some.txn c.next_sibling-top.result here next passed;
            is_top = next_is_top c.loop-top.self.tree c.in-Some.txn c.next_sibling-top.result here next;
          }
    ]

pub returns-clause-closes : goal.returns-clause-closes
returns-clause-closes c =
    let far = end_at _ _ _ _ _ _ c.loop-top.top c.in_default.is c.loop-top.invariant.far in
    let all : length c.loop-top.self.tree ≤ length (names c.loop-top.self.tree) = omega (arith, length-keys_of c.loop-top.self.tree) in
    rw c.loop-top.invariant.rows at (all_closed _ _ _ _ _ _ _ far all)
