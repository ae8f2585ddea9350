use Rattle.std.proofs.Common.{Err, Ok, Result, refl, ap, sym, ◌∙◌}
use Rattle.std.specs.Prelude.{OnErr}
use Rattle.serial_spec.specs.Rows as rows
use Rattle.serial_spec.specs.Serial.{Map, reply_at}
use Rattle.inherit.proofs.Roomy.{seen_same}
use Rattle.inherit.proofs.estate.Estate.take.Goals as goal

failed : {A E Q : Type 0} (r : Result A E) → Q → OnErr r Q
failed (Ok x) q = tt
failed (Err e) q = q

pub returns-in_err-make_place-clause-same : goal.returns-in_err-make_place-clause-same
returns-in_err-make_place-clause-same c =
    let made = c.make_place.ensures in
    rw (sym (c.self.view_is ∙ c.expect_versions.ensures)) (failed c.from_residual.result (record {
      modes = λ u s. refl;
      left = made.left;
      rows = ap (λ (b : rows.Table). b.rows) made.base;
    }))

pub returns-in_err-lock_asked-clause-same : goal.returns-in_err-lock_asked-clause-same
returns-in_err-lock_asked-clause-same c =
    let made = c.make_place.ensures in
    rw (sym (c.self.view_is ∙ c.expect_versions.ensures)) (failed c.from_residual-in_err-lock_asked.result (record {
      modes = c.in_err-lock_asked.ensures.kept;
      left = made.left;
      rows = ap (λ (b : rows.Table). b.rows) made.base;
    }))

pub returns-clause-reply : goal.returns-clause-reply
returns-clause-reply c =
    let made = c.make_place in
    let sees = seen_same c.args.tree.now c.self.inside.versions made.new.versions made.ensures.left made.ensures.base c.args.txn in
    rw (sym (c.self.view_is ∙ c.expect_versions.ensures)) (c.reply_for-reply.ensures ∙ ap (λ (m : Map). reply_at m c.args.asked.now) sees)
