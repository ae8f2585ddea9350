use Rattle.std.proofs.Common.{◌≡◌, ℕ, List, rules, ◌++◌, map, sym, ap, ◌∙◌}
use Rattle.std.proofs.lemmas.List.{append-nil}
use Rattle.version_stack.specs.Seen.{seen_in}
use Rattle.inherit.specs.Changes.{writes}
use Rattle.inherit.proofs.Collected.{change_of, changes_rise, changes_each, none_left}
use Rattle.inherit.proofs.estate.Estate.changes.Goals as goal

pub returns-clause-ok : goal.returns-clause-ok
returns-clause-ok c =
    let sees = seen_in c.args.tree.now c.args.self.now.versions c.args.txn in
    let keys : List (List ℕ) = c.in_ok-written.written.keys in
    let whole : ◌≡◌ {A = List (List ℕ)} c.into_iter-key-iterator.result keys = search rules in
    let all : c.loop-key.changes.items ≡ map (change_of sees) keys =
    sym (append-nil c.loop-key.changes.items)
    ∙ ap (λ ks. c.loop-key.changes.items ++ map (change_of sees) ks) (sym c.in-None.ensures.steps.0)
    ∙ c.loop-key.invariant
    ∙ ap (map (change_of sees)) whole in
    rw all (record {
      rising = changes_rise sees keys c.in_ok-written.ensures.rising;
      each = changes_each sees (writes c.args.self.now c.args.txn) keys c.in_ok-written.ensures.each;
    })

pub returns-in_err-push-clause-succeeds : goal.returns-in_err-push-clause-succeeds
returns-in_err-push-clause-succeeds c =
    let sees = seen_in c.args.tree.now c.args.self.now.versions c.args.txn in
    let keys : List (List ℕ) = c.in_ok-written.written.keys in
    let whole : ◌≡◌ {A = List (List ℕ)} c.into_iter-key-iterator.result keys = search rules in
    λ none. absurd (none_left sees (writes c.args.self.now c.args.txn) c.loop-key.changes.items _ c.loop-key.key-iterator _ keys
    (c.loop-key.invariant ∙ ap (map (change_of sees)) whole) c.in-Some.ensures.steps c.in_ok-written.ensures.each none)
