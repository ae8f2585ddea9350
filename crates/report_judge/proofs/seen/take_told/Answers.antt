use Rattle.std.proofs.Common.{◌∙◌, sym, ap}
use Rattle.report_judge.specs.Kept.{part_of}
use Rattle.report_judge.specs.declared.seen.Part.TheVariants as kept
use Rattle.report_judge.proofs.Following.{on_ok}
use Rattle.report_judge.proofs.Stepping.{entry_line, entry_steps, is_entry, kept_again}
use Rattle.report_judge.proofs.seen.take_told.Goals as goal

pub returns-in-Some : goal.returns-in-Some
returns-in-Some c =
    let s = c.args.seen.now in
    let bs = c.args.bytes.now in
    let read = sym c.read_entry.ensures ∙ c.in-Some.is in
    on_ok c.take_entry.result _ _ c.take_entry.ensures.kept
    (λ ok told r seen middle at.
    entry_steps r s c.take_entry.new.seen bs c.in-Some.entry seen middle read (ap part_of c.take_entry.ensures.part) ok
    (told r (kept_again r s seen.kept kept.Entries) (entry_line r s c.args.at seen middle at) (is_entry bs c.in-Some.entry read)))
