use Rattle.std.proofs.Common.{sym, rules}
use Rattle.std.proofs.lemmas.Result.{on_ok_weaker}
use Rattle.std.specs.Prelude.{IsOk}
use Rattle.version_stack.specs.Versioned as versions
use Rattle.inherit.proofs.Ready.{childs_made}
use Rattle.inherit.proofs.estate.Estate.reserve_for_parent.Goals as goal

pub returns-clause-ok : goal.returns-clause-ok
returns-clause-ok c =
    let child = c.args.child in
    let parent = c.args.parent in
    on_ok_weaker c.reserve_for_parent-2.result (λ made. (
      c.in_ok-reserve_for_parent.ensures.ok,
      childs_made (versions.has_place c.self.inside.versions) (versions.has_place c.reserve_for_parent-2.new.self) child parent made,
    )) c.reserve_for_parent-2.ensures.ok

pub returns-clause-succeeds : goal.returns-clause-succeeds
returns-clause-succeeds c = rw (sym c.self.view_is) (λ may. c.reserve_for_parent-2.ensures.succeeds may.1)

pub returns-in_err-reserve_for_parent-clause-succeeds : goal.returns-in_err-reserve_for_parent-clause-succeeds
returns-in_err-reserve_for_parent-clause-succeeds c =
    rw (sym c.self.view_is) (λ may.
    let ok : IsOk c.reserve_for_parent.result = c.reserve_for_parent.ensures.succeeds may.0 in
    search rules)
