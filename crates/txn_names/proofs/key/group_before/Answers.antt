use Rattle.std.proofs.Common.{rules, ◌≡◌, ◌<◌, ◌≤◌, length, take, get_or, List, ℕ, Some, sym, ap, subst, ◌∙◌, arith}
use Rattle.std.proofs.lemmas.List.{length-take-le}
use Rattle.txn_names.specs.Groups.{has}
use Rattle.txn_names.proofs.Groups.{dot_behind, same_front, has-take, group-take}
use Rattle.txn_names.proofs.key.group_before.Goals as goal

pub returns-then-place-eq0-clause-all : goal.returns-then-place-eq0-clause-all
returns-then-place-eq0-clause-all c = λ g is.
    let zero_place : c.args.place ≡ 0 = search rules in
    absurd (omega (arith, is.1, is.2, zero_place))

pub returns-then-place-bytes-clause-all : goal.returns-then-place-bytes-clause-all
returns-then-place-bytes-clause-all c = λ g is.
    let dot = dot_behind g c.args.bytes.now 0 is.0 in
    let far : length c.args.bytes.now ≤ c.args.place = search rules in
    absurd (omega (arith, dot.0, is.2, far))

pub returns-then-bytes-place-ne46-clause-all : goal.returns-then-bytes-place-ne46-clause-all
returns-then-bytes-place-ne46-clause-all c = λ g is.
    let dot = dot_behind g c.args.bytes.now 0 is.0 in
    absurd (c.if-bytes-place-ne46.true (subst (λ n. get_or c.args.bytes.now n 0 ≡ 46) is.2 dot.1))

pub of-requires : goal.of-requires
of-requires c =
    let some : 0 < c.args.place = omega (arith, c.if-place-eq0.false) in
    group-take c.args.place c.args.bytes.now some c.if-place-bytes.false c.requires

pub returns-clause-some : goal.returns-clause-some
returns-clause-some c =
    let long : length (take c.args.place c.args.bytes.now) ≡ c.args.place = length-take-le c.args.place c.args.bytes.now (omega (arith, c.if-place-bytes.false)) in (
      ap (λ (g : List ℕ). has g c.args.bytes.now) c.of.ensures ∙ has-take c.args.place c.args.bytes.now 0 c.if-place-bytes.false c.if-bytes-place-ne46.false,
      omega (arith, ap (λ (g : List ℕ). length g) c.of.ensures, long, c.if-place-eq0.false),
      ap (λ (g : List ℕ). length g) c.of.ensures ∙ long,
    )

pub returns-clause-all : goal.returns-clause-all
returns-clause-all c = λ g is.
    let same : g ≡ take c.args.place c.args.bytes.now = same_front g c.args.bytes.now is.0 ∙ ap (λ n. take n c.args.bytes.now) is.2 in
    ap (λ (x : List ℕ). Some x) (c.of.ensures ∙ sym same)
