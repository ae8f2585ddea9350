use Rattle.std.proofs.Common.{◌≡◌, ◌<◌, ◌≤◌, ◌+◌, List, ℕ, Option, None, Some, drop, length, nat_eq, take, ap, sym, ◌∙◌, arith}
use Rattle.std.specs.Prelude.{IfNone}
use Rattle.std.specs.List.{position}
use Rattle.std.proofs.lemmas.List.{length-take-le}
use Rattle.txn_names.proofs.Exports.{dot_behind}
use Rattle.lock_table.proofs.Dots.{dot_first, dot_there, dot_within, front_is_key, has_front, in_rest, no_dot_from}
use Rattle.lock_table.proofs.groups.group_from.Goals as goal

at_none : {X Q : Type 0} (o : Option X) → Q → IfNone o Q
at_none None q = q
at_none (Some x) q = tt

pub returns-then-least-bytes-clause-none : goal.returns-then-least-bytes-clause-none
returns-then-least-bytes-clause-none c = λ f is.
    let dot = dot_behind f c.args.key.now 0 is.0 in
    omega (arith, dot.0, is.2, c.if-least-bytes.true, ap length c.as_bytes-bytes.ensures.value)

pub returns-in_err-dot-clause-none : goal.returns-in_err-dot-clause-none
returns-in_err-dot-clause-none c =
    let none : position (λ b. nat_eq b 46) (drop c.args.least c.args.key.now) ≡ None = sym (in_rest c.args.key.now c.as_bytes-bytes.result.now c.args.least c.as_bytes-bytes.ensures.value c.first_dot.result c.first_dot.ensures) ∙ c.in_err-dot.was in
    at_none c.from_residual.result (λ f is. no_dot_from c.args.key.now c.args.least none f is.0 is.2)

pub of-requires : goal.of-requires
of-requires c =
    let k : List ℕ = c.args.key.now in
    let n : ℕ = c.in_ok-dot.dot in
    let at : position (λ b. nat_eq b 46) (drop c.args.least k) ≡ Some n = sym (in_rest k c.as_bytes-bytes.result.now c.args.least c.as_bytes-bytes.ensures.value c.first_dot.result c.first_dot.ensures) ∙ c.in_ok-dot.was in
    rw c.as_bytes-bytes.ensures.value (front_is_key (c.args.least + n) k (omega (arith, c.requires)) (dot_within k c.args.least n at) c.as_bytes-bytes.ensures.key)

pub returns-clause-some : goal.returns-clause-some
returns-clause-some c =
    let k : List ℕ = c.args.key.now in
    let n : ℕ = c.in_ok-dot.dot in
    let at : position (λ b. nat_eq b 46) (drop c.args.least k) ≡ Some n = sym (in_rest k c.as_bytes-bytes.result.now c.args.least c.as_bytes-bytes.ensures.value c.first_dot.result c.first_dot.ensures) ∙ c.in_ok-dot.was in
    let within = dot_within k c.args.least n at in
    let long = length-take-le (c.args.least + n) k (omega (arith, within)) in
    rw (c.of.ensures, c.as_bytes-bytes.ensures.value)
    (has_front (c.args.least + n) k within (dot_there k c.args.least n at), omega (arith, long, c.requires), omega (arith, long))

pub returns-clause-first : goal.returns-clause-first
returns-clause-first c = λ f is.
    let k : List ℕ = c.args.key.now in
    let n : ℕ = c.in_ok-dot.dot in
    let at : position (λ b. nat_eq b 46) (drop c.args.least k) ≡ Some n = sym (in_rest k c.as_bytes-bytes.result.now c.args.least c.as_bytes-bytes.ensures.value c.first_dot.result c.first_dot.ensures) ∙ c.in_ok-dot.was in
    let within = dot_within k c.args.least n at in
    let long = length-take-le (c.args.least + n) k (omega (arith, within)) in
    let least = dot_first k c.args.least n at f is.0 is.2 in
    rw (c.of.ensures, c.as_bytes-bytes.ensures.value) (omega (arith, long, least))
