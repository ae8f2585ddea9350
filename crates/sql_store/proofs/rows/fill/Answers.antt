use Rattle.std.proofs.Common.{SFits, w64, ap, refl, ◌∙◌, rules, arith}
use Rattle.std.proofs.lemmas.Int.{to_z-of_z}
use Rattle.sqlite.specs.declared.types.Value.TheVariants.{Text, Int}
use Rattle.sqlite_value.specs.declared.value.ValueRef.TheVariants as lent
use Rattle.sql_store.proofs.Params.{params_more, three_same}
use Rattle.sql_store.proofs.rows.fill.Goals as goal

pub loop-index-preserved : goal.loop-index-preserved
loop-index-preserved c =
    let number : SFits w64 c.args.number = c.ranges.number in
    let value : SFits w64 c.value_of.result = search rules in
    let ps = c.loop-index.params in
    let i = c.loop-index.index in
    let rows = c.args.rows.now in
    let d = c.index-rows-index.result in
    let filled = simp to_z-of_z at c.loop-index.invariant.filled in
    record {
      size = three_same ps _ _ _ _ _ _ ∙ c.loop-index.invariant.size;
      filled = simp to_z-of_z (params_more ps rows c.args.number i d (lent.Text c.as_bytes.result) (lent.Int c.value_of.result) (lent.Int c.args.number)
          (ap (λ t. Text t) c.as_bytes.ensures.value) (ap (λ n. Int n) c.value_of.ensures) refl c.index-rows-index.is (omega arith) (omega (arith, c.loop-index.invariant.size)) filled);
    }
