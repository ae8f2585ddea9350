use Rattle.std.proofs.Common.{◌≡◌, ◌+◌, ◌-◌, ℕ, List, Option, None, length, reverse, sym, ap, subst, ◌∙◌}
use Rattle.std.specs.Map.{keys_of}
use Rattle.serial_spec.specs.Rows.{Rows}
use Rattle.report_check.specs.Passing.{Read}
use Rattle.report_check.specs.Verdicts.{served}
use Rattle.report_tables.specs.Chained.{Leads, chain_in}
use Rattle.report_tables.specs.Served.{AreServed}
use Rattle.report_tables.specs.Valued.{Values}
use Rattle.report_tables.specs.declared.chains.Access.{Access}
use Rattle.report_judge.specs.Judging.{IsComparedBy}
use Rattle.report_judge.specs.Kept.{IsKept, known}
use Rattle.report_judge.specs.declared.seen.Seen.{Seen}
use Rattle.report_judge.proofs.Following.{on_ok}
use Rattle.report_judge.proofs.Remaining.{root_leads, run_right, run_wrong}
use Rattle.report_judge.proofs.lines.passes.Goals as goal

-- the root's accesses were done
all_served : (r : Read) (s : Seen) (acs : List Access) (first : Option ℕ) (new : Values) (wrong : Option ℕ) → IsKept r s → acs ≡ s.transactions.accesses.items
    → first ≡ (chain_in (Rattle.std.specs.Prelude.slice_get s.transactions.chains.items 0)).first
    → ((last : Option ℕ) (ps : List Rattle.report_check.specs.Serving.PlacedAccess) → Leads acs (known s) first None last ps → AreServed ps s.values.entries new wrong)
    → AreServed (reverse (served r)) s.values.entries new wrong
all_served r s acs first new wrong kept same at told =
    let w = root_leads r s kept in
    let begins : first ≡ w.0.first = at ∙ ap (λ o. (chain_in o).first) w.1 in
    told w.0.last (reverse (served r))
    (subst (λ (xs : List Access). Leads xs (known s) first None w.0.last (reverse (served r))) (sym same)
    (subst (λ (o : Option ℕ). Leads s.transactions.accesses.items (known s) o None w.0.last (reverse (served r))) (sym begins) w.2))

pub returns-in-Some : goal.returns-in-Some
returns-in-Some c r seen ended at =
    let s = c.args.seen.now in
    run_wrong r s seen.kept c.serve_all.new.values.entries c.serve_all.result
    (all_served r s c.deref.result.now c.first_access-first.result c.serve_all.new.values.entries c.serve_all.result seen.kept c.deref.ensures.value c.first_access-first.ensures c.serve_all.ensures)
    c.in-Some.wrong c.in-Some.is

pub returns-in-None : goal.returns-in-None
returns-in-None c =
    let s = c.args.seen.now in
    on_ok c.last_pass.result _ _ c.last_pass.ensures
    (λ v compared r seen ended at.
    run_right r s seen.kept c.serve_all.new.values.entries c.serve_all.result
    (all_served r s c.deref.result.now c.first_access-first.result c.serve_all.new.values.entries c.serve_all.result seen.kept c.deref.ensures.value c.first_access-first.ensures c.serve_all.ensures)
    c.args.after v c.in-None.is ended at
    (subst (λ (rows : Rows). IsComparedBy c.serve_all.new.values.entries rows (c.args.after - (1 + length rows)) v) c.deref-in-None.ensures.value compared))
