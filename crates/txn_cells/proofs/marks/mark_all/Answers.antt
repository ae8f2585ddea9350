use Rattle.std.proofs.Common.{◌≡◌, ◌≤◌, ◌++◌, ◌∷◌, ◌&&◌, [], List, ℕ, true, false, nat_eq, ap, arith, length, length-take, subst, sym, take, ◌∙◌}
use Rattle.std.specs.List.Sorted.{IsStrictlyIncreasing}
use Rattle.std.specs.List.{list_any}
use Rattle.std.proofs.lemmas.List.{take_all}
use Rattle.std.proofs.lemmas.List.Kept.{IsStrictlyIncreasing-filter}
use Rattle.txn_cells.specs.Kept.{content_of, stands}
use Rattle.txn_cells.proofs.ByKey.{fewer_pass}
use Rattle.txn_cells.proofs.Marking.{any-marks, marks_more}
use Rattle.txn_cells.proofs.marks.mark_all.Goals as goal
use Rattle.txn_cells.proofs.marks.mark_all.Goals.{then-stands_out, else-stands_out}

pub unwrap-requires : goal.unwrap-requires
unwrap-requires g c =
    let ns : List ℕ = c.numbers-numbers.result.now in
    let n : ℕ = c.loop-txn.txn-index in
    let marks : ℕ → _ = λ u. stands g.V.Inherit.outstanding (content_of c.args.cells.now u) in
    let many = ap length c.loop-txn.invariant.marks in
    c.push.ensures.succeeds (omega (arith, many, fewer_pass marks (take n ns), length-take n ns, c.loop-txn-test.true, c.loop-txn.invariant.room, c.loop-txn.marked.ok.0))

pub loop-txn-preserved : goal.loop-txn-preserved
loop-txn-preserved g c =
    let ns : List ℕ = c.numbers-numbers.result.now in
    let held = c.args.cells.now in
    let n : ℕ = c.loop-txn.txn-index in
    let t : ℕ = c.txn-item.result in
    let i = c.loop-txn.invariant in
    let stands_there = c.stands_out.ensures ∙ ap (stands g.V.Inherit.outstanding) c.get.ensures in
    let more = marks_more g.V.Inherit.outstanding held ns n t in
    elim c.if-stands_out.branch [
      | then-stands_out w ↦
          let next = more true c.loop-txn-test.true c.txn-item.is (sym w.if-stands_out.true ∙ stands_there) in
          let items : w.push.new.self.items ≡ c.loop-txn.marked.items ++ t ∷ [] = rw w.unwrap.ensures at w.push.ensures.items in
          rw w.marked-is (record {
            marks = items ∙ ap (λ (ms : List ℕ). ms ++ t ∷ []) i.marks ∙ sym next;
            room = omega (arith, i.room, w.push.ensures.capacity);
          })
      | else-stands_out w ↦
          let next = more false c.loop-txn-test.true c.txn-item.is (sym w.if-stands_out.false ∙ stands_there) in
          rw w.marked-is (record { marks = i.marks ∙ sym next; room = i.room })
    ]

pub returns-clause-rising : goal.returns-clause-rising
returns-clause-rising g c =
    let ns : List ℕ = c.numbers-numbers.result.now in
    let past : length ns ≤ c.loop-txn.txn-index = omega (arith, c.loop-txn-test.false) in
    let marked = rw (take_all c.loop-txn.txn-index ns past) at c.loop-txn.invariant.marks in
    subst (λ (ms : List ℕ). IsStrictlyIncreasing ms) (sym marked)
    (IsStrictlyIncreasing-filter (λ u. stands g.V.Inherit.outstanding (content_of c.args.cells.now u)) ns c.numbers-numbers.ensures.rising)

pub returns-clause-each : goal.returns-clause-each
returns-clause-each g c =
    let ns : List ℕ = c.numbers-numbers.result.now in
    let held = c.args.cells.now in
    let past : length ns ≤ c.loop-txn.txn-index = omega (arith, c.loop-txn-test.false) in
    let marked = rw (take_all c.loop-txn.txn-index ns past) at c.loop-txn.invariant.marks in
    λ u.
    ap (list_any (nat_eq u)) marked
    ∙ any-marks g.V.Inherit.outstanding held ns u
    ∙ ap (λ b. stands g.V.Inherit.outstanding (content_of held u) && b) (c.numbers-numbers.ensures.each u)

pub returns-clause-room : goal.returns-clause-room
returns-clause-room g c =
    let ns : List ℕ = c.numbers-numbers.result.now in
    omega (arith, c.loop-txn.invariant.room, c.numbers-numbers.ensures.count)
