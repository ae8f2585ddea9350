use Rattle.std.proofs.Common.{SFits, w64, ◌≡◌, ◌+ℤ◌, pos, inl, ap, subst, ◌∙◌, rules}
use Rattle.std.proofs.lemmas.Int.{to_z-of_z}
use Rattle.sql_store.specs.Refusals.{CannotWrite}
use Rattle.sql_store.proofs.Commits.{tried_next}
use Rattle.sql_store.proofs.commit.commit_counted.Goals as goal

pub returns-in-Some-clause-tried : goal.returns-in-Some-clause-tried
returns-in-Some-clause-tried g c =
    let fits : SFits w64 c.in-Some.number = search rules in
    let fits_top : SFits w64 c.top.result = search rules in
    let it = c.commit_under.ensures.tried in
    let tried = simp to_z-of_z at it in
    let above = c.in-Some.ensures.above in
    let next = simp to_z-of_z at above in
    let is_next : c.in-Some.number ≡ c.args.numbers.now.top +ℤ pos 1 = next ∙ ap (λ n. n +ℤ pos 1) c.top.ensures.is in
    tried_next g.S.Store c.args.changes.now c.args.numbers.now c.commit_under.new.numbers c.args.conn.now c.commit_under.new.conn c.commit_under.result c.in-Some.number c.args.numbers.now.top is_next tried

pub returns-in-Some-clause-reason : goal.returns-in-Some-clause-reason
returns-in-Some-clause-reason g c clean is =
    let fits : SFits w64 c.in-Some.number = search rules in
    let fits_top : SFits w64 c.top.result = search rules in
    let why = c.commit_under.ensures.reason clean is in
    let gave = simp to_z-of_z at why in
    let above = c.in-Some.ensures.above in
    let next = simp to_z-of_z at above in
    let is_next : c.in-Some.number ≡ c.args.numbers.now.top +ℤ pos 1 = next ∙ ap (λ n. n +ℤ pos 1) c.top.ensures.is in
    inl (subst (λ n. CannotWrite g.S.Store n c.args.changes.now c.args.conn.now c.commit_under.new.conn) is_next gave)
