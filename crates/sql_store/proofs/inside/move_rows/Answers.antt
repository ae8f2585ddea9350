use Rattle.std.proofs.Common.{Err, ◌≡◌, ◌∙◌, ◌-◌, ◌+◌, ◌<◌, ◌++◌, ◌∷◌, ℕ, List, drop, length, take, ap, sym, subst, arith, rules}
use Rattle.std.proofs.lemmas.List.{drop_more, take-append-drop}
use Rattle.std.specs.Prelude.{IsTrue, Some}
use Rattle.sqlite.specs.Held.{state}
use Rattle.sqlite.specs.State.{HasCleanDisk}
use Rattle.durable_top.specs.declared.store.Row.{Row}
use Rattle.sql_store.specs.Asked.{PutsEach}
use Rattle.sql_store.specs.Laid.{laid, put}
use Rattle.sql_store.specs.Table.{table_of}
use Rattle.sql_store.proofs.Steps.{steps_then, clean_before}
use Rattle.sql_store.proofs.Answering.{answers_then}
use Rattle.sql_store.proofs.Opens.{laid_more}
use Rattle.sql_store.proofs.inside.move_rows.Goals as goal

pub loop-left-preserved : goal.loop-left-preserved
loop-left-preserved g c =
    let x = state g.S.Store c.args.tx.now.conn.now in
    let y = state g.S.Store c.loop-left.tx.conn.now in
    let z = state g.S.Store c.put.new.tx.conn.now in
    let rows : List Row = c.args.rows.now in
    let i : ℕ = c.loop-left.left - 1 in
    let r : Row = c.index-rows-left.result in
    let next : i + 1 ≡ c.loop-left.left = omega (arith, c.loop-left-test.true) in
    let was = λ (clean : HasCleanDisk z). clean_before y z c.put.ensures.answers.steps.survives clean in
    let here = λ (clean : HasCleanDisk z) (inside : IsTrue x.in_transaction). c.loop-left.invariant.inside (was clean) inside in
    let made = λ (clean : HasCleanDisk z) (inside : IsTrue x.in_transaction). c.in_ok-put.ensures.made clean (here clean inside) in
    let within : i < length rows = omega (arith, c.loop-left-test.true, c.loop-left.invariant.within) in
    let here_is : drop i rows ≡ r ∷ drop (i + 1) rows = drop_more rows i r within ∙ ap (λ q. q ∷ drop (i + 1) rows) (sym c.index-rows-left.is) in
    let more = laid_more rows i r (table_of x.now) (omega (arith, c.loop-left-test.true, c.loop-left.invariant.within)) c.index-rows-left.is in
    record {
      within = omega (arith, c.loop-left.invariant.within);
      same = c.put.ensures.same_reference ∙ c.loop-left.invariant.same;
      steps = steps_then x y z c.loop-left.invariant.steps c.loop-left.invariant.inside c.put.ensures.answers.steps;
      inside = λ clean inside. (made clean inside).inside;
      asked = λ clean inside.
          subst (λ rs. PutsEach g.S.Store rs c.args.tx.now.conn.now c.put.new.tx.conn.now) (sym here_is)
          (c.loop-left.tx.conn.now, subst (λ n. PutsEach g.S.Store (drop n rows) c.args.tx.now.conn.now c.loop-left.tx.conn.now) (sym next) (c.loop-left.invariant.asked (was clean) inside), c.in_ok-put.ensures.answers.asked clean (here clean inside));
      ready = λ clean inside ready. (made clean inside).ready (c.loop-left.invariant.ready (was clean) inside ready);
      table = λ clean inside ready.
          (made clean inside).table (c.loop-left.invariant.ready (was clean) inside ready)
          ∙ ap (λ m. put m r.key (Some (r.value, r.commit))) (c.loop-left.invariant.table (was clean) inside ready ∙ ap (λ n. laid (drop n rows) (table_of x.now)) (sym next))
          ∙ more;
      others = λ clean inside ready. (made clean inside).others (c.loop-left.invariant.ready (was clean) inside ready) ∙ c.loop-left.invariant.others (was clean) inside ready;
    }

pub returns-in_err-put-clause-answers : goal.returns-in_err-put-clause-answers
returns-in_err-put-clause-answers g c =
    let rows : List Row = c.args.rows.now in
    let i : ℕ = c.loop-left.left - 1 in
    let r : Row = c.index-rows-left.result in
    let next : i + 1 ≡ c.loop-left.left = omega (arith, c.loop-left-test.true) in
    let within : i < length rows = omega (arith, c.loop-left-test.true, c.loop-left.invariant.within) in
    let here_is : drop i rows ≡ r ∷ drop (i + 1) rows = drop_more rows i r within ∙ ap (λ q. q ∷ drop (i + 1) rows) (sym c.index-rows-left.is) in
    let e = c.in_err-put.field-0.0 in
    let same : c.from_residual.result ≡ Err e = search rules in
    rw same (answers_then g.S.Store c.loop-left.invariant.steps c.loop-left.invariant.inside (λ was inside h. h) (λ was inside x gave refused. record {
      before = take i rows;
      row = r;
      after = drop (i + 1) rows;
      are = sym (take-append-drop i rows) ∙ ap (λ rs. take i rows ++ rs) here_is;
      last = c.loop-left.tx.conn.now;
      put = subst (λ n. PutsEach g.S.Store (drop n rows) c.args.tx.now.conn.now c.loop-left.tx.conn.now) (sym next) (c.loop-left.invariant.asked was inside);
      refused = (c.put.new.tx.conn.now, x, gave, refused);
    }) c.in_err-put.ensures.answers)
