use Rattle.std.proofs.Common.{◌≡◌, SFits, w64, is_some, rules}
use Rattle.serial_spec.specs.Rows.{value_in}
use Rattle.std.proofs.lemmas.Int.{to_z-of_z}
use Rattle.sql_store.proofs.writes.make.Goals as goal

pub returns-in-Some-clause-answers : goal.returns-in-Some-clause-answers
returns-in-Some-clause-answers g c =
    let fits : SFits w64 c.in-Some.value = search rules in
    let counted : SFits w64 c.args.number = c.ranges.number in
    let put = simp to_z-of_z at c.put_either.ensures.answers in
    rw c.in-Some.is put

pub returns-in-None-clause-answers : goal.returns-in-None-clause-answers
returns-in-None-clause-answers g c = rw c.in-None.is c.remove.ensures.answers

pub returns-in-Some-clause-first : goal.returns-in-Some-clause-first
returns-in-Some-clause-first g c =
    let fits : SFits w64 c.in-Some.value = search rules in
    let counted : SFits w64 c.args.number = c.ranges.number in
    let likely : c.is_some.result ≡ is_some (value_in c.args.numbers.now.rows c.args.change.now.key) = search rules in
    let put = simp to_z-of_z at c.put_either.ensures.first in
    let put_so = rw likely at put in
    rw c.in-Some.is put_so
