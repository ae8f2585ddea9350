use Rattle.std.proofs.Common.{◌≡◌, true, get_or, arith, rules, subst, take_all}
use Rattle.std.specs.Char.{is_ascii_digit}
use Rattle.std.specs.List.{list_all}
use Rattle.line_language.proofs.Counting.{all_more, value_more}
use Rattle.line_language.proofs.number.counted.Goals as goal

pub loop-byte-preserved : goal.loop-byte-preserved
loop-byte-preserved c =
    let ds = c.args.bytes.now in
    let i = c.loop-byte.byte-index in
    let digit : is_ascii_digit (get_or ds i 0) ≡ true = search rules in
    let next = value_more ds i c.loop-byte.count c.loop-byte-test.true digit c.loop-byte.invariant.1 in
    (all_more is_ascii_digit ds i c.loop-byte-test.true c.loop-byte.invariant.0 digit, grind arith, grind arith)

pub returns : goal.returns
returns c =
    let ds = c.args.bytes.now in
    let whole = take_all c.loop-byte.byte-index ds (omega arith) in
    let all = subst (λ xs. list_all is_ascii_digit xs ≡ true) whole c.loop-byte.invariant.0 in
    (all, rw whole at c.loop-byte.invariant.1, c.loop-byte.invariant.2)
