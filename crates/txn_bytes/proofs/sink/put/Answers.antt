use Rattle.std.proofs.Common.{rules, ◌≡◌, ℕ, ◌-◌, ◌≤◌, List, length, take, drop, subst, arith, length-drop}
use Rattle.std.proofs.lemmas.List.{take_rest}
use Rattle.std.proofs.Math.Seq.{take-add}
use Rattle.txn_bytes.proofs.Appending.{then, kept, front_taken}
use Rattle.txn_bytes.proofs.sink.put.Goals as goal

pub loop-at-preserved : goal.loop-at-preserved
loop-at-preserved g c =
    let xs : List ℕ = c.args.bytes.now in
    let k : ℕ = c.loop-at.at in
    let part : take (length xs - k) (drop k xs) ≡ drop k xs = take_rest xs k in
    let n_in : c.in-Ok.n ≤ length (drop k xs) = subst (λ (p : List ℕ). c.in-Ok.n ≤ length p) part c.in-Ok.ensures.bound in
    record {
      within = omega (arith, c.loop-at.invariant.within, n_in, length-drop k xs);
      written = rw take-add (then _ _ _ _ _ c.loop-at.invariant.written (rw part at c.in-Ok.ensures.ok));
    }

pub returns-in-Err : goal.returns-in-Err
returns-in-Err g c = record {
  ok = tt;
  err = front_taken _ _ c.loop-at.at _ c.loop-at-test.true (kept _ _ _ _ c.loop-at.invariant.written c.in-Err.ensures.err);
  asked = search rules;
}
