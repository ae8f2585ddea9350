use Rattle.std.proofs.Common.{◌≡◌, ℕ, ◌+◌, ◌++◌, ◌∷◌, List, [], take, sym, ap, ◌∙◌, arith}
use Rattle.std.proofs.lemmas.List.{take_more, take_all}
use Rattle.inherit.specs.LocksAndVersions.{LocksAndVersions}
use Rattle.inherit.specs.Changes.{writes}
use Rattle.inherit.proofs.Collected.{written_taken, written_passed, written_all, wrote_among}
use Rattle.inherit.proofs.estate.Estate.written_keys.Goals as goal
use Rattle.inherit.proofs.estate.Estate.written_keys.Goals.{then-writes+in_ok-insert, else-writes}

pub loop-index-preserved : goal.loop-index-preserved
loop-index-preserved c =
    let wrote = writes c.args.self.now c.args.txn in
    let keys : List (List ℕ) = c.keys-reserved.result.now in
    let n : ℕ = c.loop-index.index in
    let k : List ℕ = c.index-reserved-index.result in
    let more : take (n + 1) keys ≡ take n keys ++ k ∷ [] = take_more keys n k (omega (arith, c.loop-index-test.true)) ∙ ap (λ x. take n keys ++ x ∷ []) (sym c.index-reserved-index.is) in
    elim c.if-writes.branch [
      | then-writes+in_ok-insert w ↦
          rw (more, w.written-is, w.in_ok-insert.ensures.keys)
          (written_taken wrote (take n keys) _ k c.loop-index.invariant (sym c.writes.ensures ∙ w.if-writes.true))
      | else-writes w ↦
          rw (more, w.written-is)
          (written_passed wrote (take n keys) _ k c.loop-index.invariant (sym c.writes.ensures ∙ w.if-writes.false))
    ]

pub returns-clause-each : goal.returns-clause-each
returns-clause-each c =
    let wrote = writes c.args.self.now c.args.txn in
    let keys : List (List ℕ) = c.keys-reserved.result.now in
    let same = ap (λ (a : LocksAndVersions). a.locks) c.self.view_is in
    let of = rw same at c.keys-reserved.ensures in
    let far = rw (take_all c.loop-index.index keys (omega (arith, c.loop-index-test.false))) at c.loop-index.invariant in
    written_all wrote keys _ (wrote_among c.args.self.now c.args.txn keys (λ q e. of.elsewhere q (of.each q ∙ e))) far
