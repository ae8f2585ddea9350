use Rattle.std.proofs.Common.{◌≡◌, ◌∙◌, ◌++◌, List, length, ap, sym}
use Rattle.std.specs.Prelude.{nat_eq, slice_get}
use Rattle.indexmap.specs.IndexMap.{get}
use Rattle.report_trees.specs.Telling.{changed_at, changed_by, number_in, told_by, wait_at, wait_list}
use Rattle.report_trees.specs.declared.telling.Told.{Told}
use Rattle.report_trees.specs.declared.telling.Wait.{Wait}
use Rattle.report_trees.proofs.Earlier.{length_earlier, on_done, table_earlier, waits_earlier}
use Rattle.report_trees.proofs.telling.tell.Goals as goal

pub returns : goal.returns
returns c =
    on_done c.follow.result c.follow.ensures
    (λ follows count ms few old.
    let b = c.args.mark.now.by in
    let d = c.args.mark.now.deed in
    let n = c.args.at in
    let us = c.args.telling.now.told.items in
    let w : wait_list c.wait_at-wait.result ≡ wait_at n b d ms = c.wait_at-wait.ensures ms old.next in
    let step = c.in_ok-tell_waiting.ensures in
    let table : c.tell_deed.new.told.items ≡ changed_at (number_in d) (told_by n b d) (changed_by (wait_at n b d ms) us) =
    c.tell_deed.ensures ∙ ap (changed_at (number_in d) (told_by n b d)) (step.told ∙ ap (λ ws. changed_by ws us) w) in
    record {
      told = λ i t at. table_earlier n ms few b d us old.told i t (ap (λ ts. slice_get ts i) (sym table) ∙ at);
      len = ap (λ (ts : List Told). length ts) table ∙ length_earlier us (wait_at n b d ms) (number_in d) (told_by n b d) ∙ old.len;
      waits = step.waits ∙ ap (λ ws. ws ++ wait_list c.wait_at-wait.result) old.waits ∙ waits_earlier n b d ms c.wait_at-wait.result w;
      next = follows ms d (λ s. ap (λ m. get nat_eq m s) step.next ∙ old.next s);
    })
