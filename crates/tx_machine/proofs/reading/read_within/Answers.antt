use Rattle.std.proofs.Common.{◌≡◌, ◌+◌, ◌++◌, take, length, sym, subst, ap, inr, arith, List, ℕ}
use Rattle.std.specs.Io.KnownBytes.{Consumes}
use Rattle.txn_bytes.specs.Sources.{HasGiven}
use Rattle.std.proofs.KnownBytes.{Consumes-trans}
use Rattle.std.proofs.lemmas.List.{length-append}
use Rattle.txn_bytes.proofs.Exports.{given_more, is_some, part_read}
use Rattle.tx_machine.specs.Texts.{IsShort}
use Rattle.tx_machine.proofs.reading.read_within.Goals as goal

pub returns-then-len-clause-err : goal.returns-then-len-clause-err
returns-then-len-clause-err g c =
    let i = c.loop-call.invariant in
    let n = c.in-Ok.len in
    let piece : List ℕ = take n c.give.new.buf in
    let bytes : List ℕ = c.loop-call.text.items ++ piece in
    inr (record {
      calls = c.loop-call._call + 1;
      bytes = bytes;
      given = given_more _ IsShort c.loop-call._call _ _ _ _ _ i.2.1 i.1 c.in-Ok.ensures.asked
          (is_some n piece c.in-Ok.ensures.bound.1 c.in-Ok.len-test.1);
      long = omega (arith, c.if-len.true, c.len.ensures, c.loop-call.text.ok.0, c.in-Ok.ensures.bound.1, length-append c.loop-call.text.items piece, i.1);
    })

pub returns-in-Err-extend_from_slice-clause-err : goal.returns-in-Err-extend_from_slice-clause-err
returns-in-Err-extend_from_slice-clause-err g c =
    let i = c.loop-call.invariant in
    part_read _ IsShort c.loop-call._call _ _ _ _ _ i.2.1 i.1 i.2.0 c.in-Ok.ensures.asked
    (is_some c.in-Ok.len (take c.in-Ok.len c.give.new.buf) c.in-Ok.ensures.bound.1 c.in-Ok.len-test.1)
    c.in-Ok.ensures.bytes.0

pub loop-call-preserved : goal.loop-call-preserved
loop-call-preserved g c =
    let i = c.loop-call.invariant in
    let buf = c.give.new.buf in
    let n = c.in-Ok.len in
    let piece : List ℕ = take n buf in
    let same : c.extend_from_slice.new.self.items ≡ c.loop-call.text.items ++ piece = c.in-Ok-extend_from_slice.ensures.items in
    let full : length buf ≡ 4096 = omega (arith, c.give.auto.buf, i.0) in (
      full,
      omega (arith, c.if-len.false, c.len.ensures, c.loop-call.text.ok.0, c.in-Ok.ensures.bound.1, length-append c.loop-call.text.items piece, ap (λ (xs : List ℕ). length xs) same, i.1),
      subst
          (λ (xs : List ℕ). Consumes (g.R.Read.remaining c.args.from.now) (g.R.Read.remaining c.give.new.self) xs
          × HasGiven (record { remaining = g.R.Read.remaining; gives = g.R.Source.gives }) IsShort (c.loop-call._call + 1) c.args.from.now c.give.new.self xs)
          (sym same) (
            Consumes-trans _ _ _ _ _ i.2.0 c.in-Ok.ensures.bytes.0,
            given_more _ IsShort c.loop-call._call _ _ _ _ _ i.2.1 i.1 c.in-Ok.ensures.asked
                (is_some n piece c.in-Ok.ensures.bound.1 c.in-Ok.len-test.1),
          ),
    )
