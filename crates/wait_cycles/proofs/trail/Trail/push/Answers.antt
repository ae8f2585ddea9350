use Rattle.std.proofs.Common.{◌≡◌, ℕ, nat_eq, length, [], ◌∷◌, ◌++◌, Option, sym, ap, ◌∙◌, arith}
use Rattle.std.proofs.lemmas.List.{length-append}
use Rattle.indexmap.proofs.CallerLemmas.{insert_entry-new}
use Rattle.wait_cycles.specs.Trails.{reached_in}
use Rattle.wait_cycles.proofs.Kept.{absent_in}
use Rattle.wait_cycles.proofs.Lists.{map_append}
use Rattle.wait_cycles.proofs.trail.Trail.push.Goals as goal

pub returns-clause-reached : goal.returns-clause-reached
returns-clause-reached c =
    let es = c.self.inside.before.entries in
    let one : ℕ × Option ℕ = (c.args.reached.txn, c.args.reached.from) in
    let none = absent_in c.args.reached.txn es (rw (sym c.self.view_is) at c.requires.fresh) in
    let put : c.insert.new.self.entries ≡ es ++ one ∷ [] = (rw c.unwrap.ensures at c.insert.ensures.entries) ∙ insert_entry-new nat_eq c.self.inside.before c.args.reached.txn c.args.reached.from none in
    rw (sym c.self.view_is) (ap reached_in put ∙ map_append (λ (e : ℕ × Option ℕ). record { txn = e.0; from = e.1 }) es (one ∷ []))

pub returns-clause-capacity : goal.returns-clause-capacity
returns-clause-capacity c =
    let es = c.self.inside.before.entries in
    let one : ℕ × Option ℕ = (c.args.reached.txn, c.args.reached.from) in
    let none = absent_in c.args.reached.txn es (rw (sym c.self.view_is) at c.requires.fresh) in
    let put : c.insert.new.self.entries ≡ es ++ one ∷ [] = (rw c.unwrap.ensures at c.insert.ensures.entries) ∙ insert_entry-new nat_eq c.self.inside.before c.args.reached.txn c.args.reached.from none in
    let long = ap length put ∙ length-append es (one ∷ []) in
    let spare = c.insert.ensures.spare in
    rw (sym c.self.view_is) (omega (arith, long, spare))
