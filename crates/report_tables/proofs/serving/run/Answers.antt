use Rattle.std.proofs.Common.{◌≡◌, ℕ, List, ◌≤◌, length, arith, sym, ap₂, ◌∙◌, subst}
use Rattle.std.specs.Map.{keys_of}
use Rattle.report_tables.specs.Chained.{Known, Leads, known_by}
use Rattle.report_tables.specs.Served.{GoesOn}
use Rattle.report_tables.proofs.Running.{under_way_first, under_way_last, under_way_next}
use Rattle.report_tables.proofs.serving.run.Goals as goal

pub loop-turn-init : goal.loop-turn-init
loop-turn-init c = (c.requires, Rattle.std.proofs.Common.refl, λ last ps leads. under_way_first c.args.accesses.now _ c.args.first last ps c.args.values.now.entries leads)

pub loop-turn-preserved : goal.loop-turn-preserved
loop-turn-preserved c = (
  c.serve_at-after.ensures.tallied,
  c.serve_at-after.ensures.keys ∙ c.loop-turn.invariant.1,
  λ last ps leads.
      let acs = c.args.accesses.now in
      let old = c.args.values.now.entries in
      let known : Known = known_by (keys_of old) (keys_of c.args.groups.now.entries) in
      let u = c.loop-turn.invariant.2 last ps leads in
      let same : known_by (keys_of c.loop-turn.values.entries) (keys_of c.loop-turn.groups.entries) ≡ known = ap₂ known_by u.served.keys c.loop-turn.invariant.1 in
      under_way_next acs known last ps old c.loop-turn._turn c.loop-turn.next c.loop-turn.values.entries c.serve_at-after.new.values.entries c.loop-turn.wrong c.serve_at-after.result u
      (subst (λ (ks : Known). GoesOn acs ks last u.rest c.loop-turn.values.entries c.serve_at-after.new.values.entries c.loop-turn.wrong c.serve_at-after.result) same
      (c.serve_at-after.ensures.told u.before last u.rest (subst (λ (ks : Known). Leads acs ks c.loop-turn.next u.before last u.rest) (sym same) u.leads))),
)

pub returns : goal.returns
returns c last ps leads =
    let acs = c.args.accesses.now in
    let old = c.args.values.now.entries in
    let over : length acs ≤ c.loop-turn._turn = omega arith in
    under_way_last acs _ c.args.first last ps old c.loop-turn._turn c.loop-turn.next c.loop-turn.values.entries c.loop-turn.wrong leads over (c.loop-turn.invariant.2 last ps leads)
