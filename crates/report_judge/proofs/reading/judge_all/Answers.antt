use Rattle.std.proofs.Common.{◌≡◌, ◌≤◌, ℕ, List, [], ◌++◌, take, length, refl, ap, sym, arith}
use Rattle.std.proofs.KnownBytes.{Consumes-nil, Consumes-trans}
use Rattle.txn_bytes.proofs.Exports.{given_more, is_some, part_read, whole_read}
use Rattle.report_judge.proofs.Judging.{kept_more, report_whole, verdict_early, verdict_whole, wants_first}
use Rattle.report_judge.proofs.reading.judge_all.Goals as goal

pub returns-in-Err-finish-clause-err : goal.returns-in-Err-finish-clause-err
returns-in-Err-finish-clause-err g c =
    let i = c.loop-call.invariant in
    whole_read _ _ c.loop-call._call _ _ _ i.2.0 _ i.2.3 i.2.4 i.2.1 c.in-Ok-eq0.ensures.asked
    (ap (λ n. take n c.give.new.buf) c.in-Ok-eq0.field-0-test)
    c.in-Ok-eq0.ensures.bytes.0

pub returns-in-Ok-finish-clause-ok : goal.returns-in-Ok-finish-clause-ok
returns-in-Ok-finish-clause-ok g c =
    let i = c.loop-call.invariant in
    verdict_whole _ c.loop-call._call _ _ _ i.2.0 _ _ c.loop-call-test.true i.2.3 i.2.4 i.2.1 c.in-Ok-eq0.ensures.asked c.in-Ok-eq0.ensures.bytes.0
    (ap (λ n. take n c.give.new.buf) c.in-Ok-eq0.field-0-test) (c.in-Ok-eq0.ensures.bytes.1 c.in-Ok-eq0.field-0-test (omega (arith, c.give.auto.buf, i.0)))
    (c.in-Ok-finish.ensures i.2.0 i.2.2)

pub returns-in-Ok-finish-clause-kept : goal.returns-in-Ok-finish-clause-kept
returns-in-Ok-finish-clause-kept g c = λ wanted is.
    let i = c.loop-call.invariant in
    report_whole _ c.loop-call._call _ _ _ i.2.0 _ _ c.loop-call-test.true i.2.3 i.2.4 i.2.1 c.in-Ok-eq0.ensures.asked c.in-Ok-eq0.ensures.bytes.0
    (ap (λ n. take n c.give.new.buf) c.in-Ok-eq0.field-0-test) (c.in-Ok-eq0.ensures.bytes.1 c.in-Ok-eq0.field-0-test (omega (arith, c.give.auto.buf, i.0)))
    (c.in-Ok-finish.ensures i.2.0 i.2.2) is (i.2.5 wanted)

pub returns-in-Some-clause-ok : goal.returns-in-Some-clause-ok
returns-in-Some-clause-ok g c =
    let i = c.loop-call.invariant in
    let piece : List ℕ = take c.in-Ok.len c.give.new.buf in
    verdict_early _ c.loop-call._call _ _ _ i.2.0 piece _ c.loop-call-test.true i.2.3 i.2.4 i.2.1 c.in-Ok.ensures.asked c.in-Ok.ensures.bytes.0
    (is_some c.in-Ok.len piece c.in-Ok.ensures.bound.1 c.in-Ok.len-test.1)
    (c.in-Some.ensures.settled (i.2.0 ++ piece) (c.in-Ok-take_piece.ensures.stands i.2.0 i.2.2))

pub loop-call-init : goal.loop-call-init
loop-call-init g c = (omega arith, omega (arith, c.requires.line), ([], Consumes-nil _, c.requires.stands, (refl, refl), wants_first, λ _. c.requires.none))

pub returns-in-Err-take_piece-clause-err : goal.returns-in-Err-take_piece-clause-err
returns-in-Err-take_piece-clause-err g c =
    let i = c.loop-call.invariant in
    part_read _ _ c.loop-call._call _ _ _ i.2.0 _ i.2.3 i.2.4 i.2.1 c.in-Ok.ensures.asked
    (is_some c.in-Ok.len (take c.in-Ok.len c.give.new.buf) c.in-Ok.ensures.bound.1 c.in-Ok.len-test.1)
    c.in-Ok.ensures.bytes.0

pub loop-call-preserved : goal.loop-call-preserved
loop-call-preserved g c =
    let i = c.loop-call.invariant in
    let buf = c.give.new.buf in
    let n = c.in-Ok.len in
    let full : length buf ≡ 4096 = omega (arith, c.give.auto.buf, i.0) in
    let fits : n ≤ length buf = c.in-Ok.ensures.bound.0 in
    let given : length (take n buf) ≡ n = sym c.in-Ok.ensures.bound.1 in (
      full,
      omega (arith, i.1, c.in-Ok-take_piece.ensures.line, given, fits, full),
      (
        i.2.0 ++ take n buf,
        Consumes-trans _ _ _ _ _ i.2.1 c.in-Ok.ensures.bytes.0,
        c.in-Ok-take_piece.ensures.stands i.2.0 i.2.2,
        given_more _ _ c.loop-call._call _ _ _ i.2.0 _ i.2.3 i.2.4 c.in-Ok.ensures.asked
            (is_some n (take n buf) c.in-Ok.ensures.bound.1 c.in-Ok.len-test.1),
        c.in-None.ensures.wanted refl (i.2.0 ++ take n buf) (c.in-Ok-take_piece.ensures.stands i.2.0 i.2.2),
        λ wanted. kept_more _ _ _ _ (c.in-Ok-take_piece.ensures.kept wanted) (i.2.5 wanted),
      ),
    )
