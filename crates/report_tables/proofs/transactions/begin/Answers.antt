use Rattle.std.proofs.Common.{refl, sym, ap, ◌∙◌, ◌++◌, ◌∷◌, []}
use Rattle.std.specs.Prelude.{is_none}
use Rattle.std.proofs.Common.{Err}
use Rattle.txn_tree.specs.Causes.{refusal_of}
use Rattle.report_tables.proofs.Doing.{begin_is, done_begin}
use Rattle.report_tables.proofs.transactions.begin.Goals as goal

pub returns-in_ok-push-in-Ok : goal.returns-in_ok-push-in-Ok
returns-in_ok-push-in-Ok c base known h are =
    let t = c.args.name.now in
    let free = sym c.in-Ok.ensures.refused in (
      sym (begin_is h c.args.transactions.now.tree are.in_tree t) ∙ ap is_none free,
      λ e does. done_begin base known h c.args.transactions.now _ e are t c.has_labels.ensures c.has_distinct_names.ensures free does c.in-Ok.ensures.last c.in-Ok.ensures.live refl
          (c.in_ok-push-in-Ok.ensures.items ∙ ap (λ x. c.args.transactions.now.chains.items ++ x ∷ []) c.none.ensures),
    )

pub returns-in-Err-Refused : goal.returns-in-Err-Refused
returns-in-Err-Refused c base known h are =
    let t = c.args.name.now in
    sym (begin_is h c.args.transactions.now.tree are.in_tree t) ∙ ap is_none (sym c.in-Err-Refused.ensures.refused) ∙ ap (λ f. is_none (refusal_of (Err f))) c.in-Err-Refused.field-0-is
