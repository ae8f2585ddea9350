use Rattle.std.proofs.Common.{◌≡◌, nat_eq, true, length, sym, ap, subst, ◌∙◌, Some, arith}
use Rattle.std.proofs.lemmas.Bool.{eq-eqb, or_left, or_right, true≢false}
use Rattle.std.proofs.lemmas.Option.{slice_get-get_or}
use Rattle.wait_cycles.specs.Cycles.{Pairs}
use Rattle.wait_graph.specs.Edges.{edges_among}
use Rattle.wait_graph.specs.Walks.{HasMoreOf}
use Rattle.wait_graph.proofs.Walking.{never_back, none_marked, walk_begins, walk_goes_on, way}
use Rattle.wait_graph.proofs.walk.collect_way.Goals as goal

pub go_on_from-requires : goal.go_on_from-requires
go_on_from-requires c =
    let few = none_marked c.clear_marks.new.marks.items (length c.args.waits.now.waits) c.clear_marks.ensures.len in
    record { marks = c.clear_marks.ensures.len; room = omega (arith, few, c.clear.ensures.len, c.clear.ensures.capacity, c.requires.room) }

pub loop-place-init : goal.loop-place-init
loop-place-init c =
    let done = c.go_on_from.ensures in
    let few = none_marked c.clear_marks.new.marks.items (length c.args.waits.now.waits) c.clear_marks.ensures.len in
    record {
      walked = λ keeps tells.
          let now = done.gone_on keeps tells (λ place w marked at. absurd (true≢false (sym marked ∙ c.clear_marks.ensures.none place))) in
          walk_begins _ c.args.waits.now.waits c.args.txn c.go_on_from.new.marks.items c.go_on_from.new.edges.items now.0 now.1
          (subst (λ (ps : Pairs). HasMoreOf (edges_among c.args.tree.now keeps c.args.waits.now.waits) ps c.go_on_from.new.edges.items) c.clear.ensures.items (done.among keeps tells));
      marks = done.marks ∙ c.clear_marks.ensures.len;
      marks_capacity = omega (arith, done.marks_capacity, c.clear_marks.ensures.capacity);
      few = omega (arith, few, done.len, c.clear.ensures.len);
      capacity = omega (arith, done.capacity, c.clear.ensures.capacity);
    }

pub loop-place-preserved : goal.loop-place-preserved
loop-place-preserved c =
    let done = c.go_on_from-in-loop-place.ensures in
    let so_far = c.loop-place.invariant in
    let p = c.index.result.now in
    let place = c.loop-place.place in
    let at = slice_get-get_or c.loop-place.edges.items place p (omega (arith, c.loop-place-test.true, c.len.ensures)) ∙ ap Some (sym c.index.ensures) in
    let still : c.loop-place.back ≡ true → c.is_back-back.result ≡ true = λ e. c.is_back-back.ensures ∙ or_left c.loop-place.back (nat_eq p.1 c.args.txn) e in
    let here : p.1 ≡ c.args.txn → c.is_back-back.result ≡ true = λ same. c.is_back-back.ensures ∙ or_right c.loop-place.back (nat_eq p.1 c.args.txn) (eq-eqb p.1 c.args.txn same) in
    record {
      walked = λ keeps tells.
          walk_goes_on _ c.args.waits.now.waits c.args.txn c.loop-place.marks.items c.go_on_from-in-loop-place.new.marks.items c.loop-place.edges.items c.go_on_from-in-loop-place.new.edges.items place c.loop-place.back c.is_back-back.result p
          (so_far.walked keeps tells) at still here done.longer (done.among keeps tells) (done.gone_on keeps tells (so_far.walked keeps tells).gone_on);
      marks = done.marks ∙ so_far.marks;
      marks_capacity = omega (arith, done.marks_capacity, so_far.marks_capacity);
      few = omega (arith, done.len, so_far.few);
      capacity = omega (arith, done.capacity, so_far.capacity);
    }

pub returns-clause-none : goal.returns-clause-none
returns-clause-none c none keeps tells =
    never_back _ c.args.waits.now.waits c.args.txn c.loop-place.marks.items c.loop-place.edges.items c.loop-place.place c.loop-place.back
    (c.loop-place.invariant.walked keeps tells) (omega (arith, c.loop-place-test.false, c.len.ensures)) none

pub returns-clause-way : goal.returns-clause-way
returns-clause-way c keeps tells =
    way _ c.args.waits.now.waits c.args.txn c.loop-place.marks.items c.loop-place.edges.items c.loop-place.place c.loop-place.back
    (c.loop-place.invariant.walked keeps tells) (omega (arith, c.loop-place-test.false, c.len.ensures))
