use Rattle.std.proofs.Common.{◌≡◌, ◌<◌, true, false, length, sym, ap, subst, ◌∙◌, Some, inl, arith}
use Rattle.std.specs.Prelude.{slice_index_or}
use Rattle.std.proofs.lemmas.Option.{get_or_from_slice_get, slice_get-get_or, slice_get_within}
use Rattle.wait_graph.proofs.Walking.{marked_before, marked_now, more_of, nobodys, one_marked}
use Rattle.wait_graph.proofs.walk.go_on_from.Goals as goal

pub returns-in_default-clause-gone_on : goal.returns-in_default-clause-gone_on
returns-in_default-clause-gone_on c keeps tells gone =
    (gone, nobodys c.args.tree.now keeps c.args.waits.now c.has_each_once.ensures c.args.edges.now.items c.args.txn c.in_default.ensures.none)

pub index-requires : goal.index-requires
index-requires c =
    let there = c.in-Some.ensures.some in
    let within = slice_get_within c.args.waits.now.waits c.in-Some.place there.0 there.2 in
    omega (arith, within, c.requires.marks)

pub returns-then-index-clause-gone_on : goal.returns-then-index-clause-gone_on
returns-then-index-clause-gone_on c keeps tells gone =
    let marks = c.args.marks.now.items in
    let place = c.in-Some.place in
    let there = c.in-Some.ensures.some in
    let within : place < length marks = omega (arith, slice_get_within c.args.waits.now.waits place there.0 there.2, c.requires.marks) in
    let at = slice_get-get_or marks place c.index.result.now within ∙ ap Some (sym c.index.ensures ∙ c.if-index.true) in (
      gone,
      marked_before c.args.tree.now keeps c.args.waits.now c.has_each_once.ensures marks c.args.edges.now.items c.args.txn place there
          (get_or_from_slice_get marks place true false at) gone,
    )

pub index_mut-requires : goal.index_mut-requires
index_mut-requires c =
    let there = c.in-Some.ensures.some in
    let within = slice_get_within c.args.waits.now.waits c.in-Some.place there.0 there.2 in
    omega (arith, within, c.requires.marks)

pub add_edges_from-requires : goal.add_edges_from-requires
add_edges_from-requires c =
    let marks = c.args.marks.now.items in
    let place = c.in-Some.place in
    let there = c.in-Some.ensures.some in
    let within : place < length marks = omega (arith, slice_get_within c.args.waits.now.waits place there.0 there.2, c.requires.marks) in
    let more = one_marked marks place (length c.args.waits.now.waits) within (subst (λ b. slice_index_or marks place b ≡ b) c.if-index.false (sym c.index.ensures)) in
    record { room = omega (arith, more, c.requires.room) }

pub returns-in-Some-at-clause-gone_on : goal.returns-in-Some-at-clause-gone_on
returns-in-Some-at-clause-gone_on c keeps tells gone =
    marked_now c.args.tree.now keeps c.args.waits.now c.has_each_once.ensures c.args.marks.now.items c.args.edges.now.items c.add_edges_from.new.edges.items c.args.txn c.in-Some.place
    c.in-Some-at.wait.now c.in-Some.ensures.some (sym c.in-Some-at.ensures.wait) (c.add_edges_from.ensures.edges keeps tells) c.add_edges_from.ensures.longer gone

pub returns-in-Some-at-clause-len : goal.returns-in-Some-at-clause-len
returns-in-Some-at-clause-len c =
    let marks = c.args.marks.now.items in
    let place = c.in-Some.place in
    let there = c.in-Some.ensures.some in
    let within : place < length marks = omega (arith, slice_get_within c.args.waits.now.waits place there.0 there.2, c.requires.marks) in
    let more = one_marked marks place (length c.args.waits.now.waits) within (subst (λ b. slice_index_or marks place b ≡ b) c.if-index.false (sym c.index.ensures)) in
    omega (arith, more, c.add_edges_from.ensures.len)

pub returns-in_default-clause-among : goal.returns-in_default-clause-among
returns-in_default-clause-among c keeps tells a b e = inl e

pub returns-then-index-clause-among : goal.returns-then-index-clause-among
returns-then-index-clause-among c keeps tells a b e = inl e

pub returns-in-Some-at-clause-among : goal.returns-in-Some-at-clause-among
returns-in-Some-at-clause-among c keeps tells =
    more_of c.args.tree.now keeps c.args.waits.now c.has_each_once.ensures c.args.edges.now.items c.add_edges_from.new.edges.items c.in-Some.place
    c.in-Some-at.wait.now (sym c.in-Some-at.ensures.wait) (c.add_edges_from.ensures.edges keeps tells)
