use Rattle.std.proofs.Common.{◌≡◌, ◌<◌, ◌+◌, ◌&&◌, List, ℕ, None, true, length, nat_eq, refl, ap, sym, ◌∙◌, arith, rules}
use Rattle.std.specs.Prelude.{IsOk, nat_lt}
use Rattle.std.proofs.lemmas.Bool.{or_right}
use Rattle.txn_names.specs.Path.{label_eq}
use Rattle.txn_names.specs.Groups.{has}
use Rattle.txn_names.proofs.Exports.{dot_behind}
use Rattle.lock_table.specs.declared.modes.Modes.{Modes}
use Rattle.lock_table.specs.Locked as one
use Rattle.lock_table.specs.Targeted.{with_groups}
use Rattle.lock_table.proofs.InTurn.{IsNext, low_still, marked_still, nearer, next_behind, next_is_group, none_between, none_left, passed, unmarked_is_group}
use Rattle.lock_table.proofs.Places.{group_wanted, placed_there, up_to_next, up_to_none}
use Rattle.lock_table.proofs.groups.make_marks.Goals as goal

pub loop-next-init : goal.loop-next-init
loop-next-init c =
    let k : List ℕ = c.args.key.now in
    let place = one.has_place c.args.writers.now in
    let o = c.group_from-next.result in
    let first = c.group_from-next.ensures in
    let next : IsNext k 1 o = record { some = first.some; first = first.first; none = first.none } in
    record {
      next = next_is_group k 1 o next.some;
      modes = λ u g. refl;
      made = λ g there some less. absurd (none_between k 1 o next g there some (omega (arith, some)) less);
      added = up_to_none place (with_groups place c.args.txn k) (λ u g e. or_right (nat_eq c.args.txn u && (has g k && nat_lt 0 (length g))) (place u g) e);
      group = tt;
      low = tt;
      marked = λ g there some less _. absurd (none_between k 1 o next g there some (omega (arith, some)) less);
    }

pub loop-next-smaller : goal.loop-next-smaller
loop-next-smaller c =
    let after = c.group_from-next-in-Some in
    let next = next_behind c.args.key.now c.in-Some.group c.as_bytes.result.now c.as_bytes.ensures.value after.result after.ensures.some after.ensures.first after.ensures.none in
    rw c.in-Some.is (nearer c.args.key.now c.in-Some.group after.result next.some)

pub loop-next-preserved : goal.loop-next-preserved
loop-next-preserved c =
    let k : List ℕ = c.args.key.now in
    let f : List ℕ = c.in-Some.group in
    let t : ℕ = c.args.txn in
    let old = c.args.writers.now in
    let now = c.loop-next.writers in
    let made = c.make_mark.new.writers in
    let placed = c.in_ok-marked.ensures.ok in
    let i = rw c.in-Some.is at c.loop-next.invariant in
    let after = c.group_from-next-in-Some in
    let o = after.result in
    let next = next_behind k f c.as_bytes.result.now c.as_bytes.ensures.value o after.ensures.some after.ensures.first after.ensures.none in
    rw c.first_unmarked-unmarked.ensures (record {
      next = next_is_group k (length f + 1) o next.some;
      modes = λ u g. c.make_mark.ensures.modes u g ∙ i.modes u g;
      made =
          passed k f o next i.next.0 (λ g. one.has_place made t g ≡ true)
          (λ g there some less. placed t g ∙ or_right (nat_eq t t && label_eq f g) (one.has_place now t g) (i.made g there some less))
          (placed_there (one.has_place now) (one.has_place made) t f placed);
      added = up_to_next (one.has_place old) (one.has_place now) (one.has_place made) (with_groups (one.has_place old) t k) t f i.added placed (group_wanted (one.has_place old) t k f i.next.0 i.next.1);
      group = unmarked_is_group k f c.loop-next.unmarked c.in_ok-marked.marked i.group i.next;
      low = low_still k f o next i.next.0 old t c.loop-next.unmarked c.in_ok-marked.marked i.low;
      marked =
          marked_still k f o next i.next.0 old t c.loop-next.unmarked c.in_ok-marked.marked i.low i.marked
          (λ e. ap (λ (m : Modes). m.held) (sym (i.modes t f)) ∙ c.in_ok-marked.ensures.marked e);
    })

pub returns-in_err-marked-clause-succeeds : goal.returns-in_err-marked-clause-succeeds
returns-in_err-marked-clause-succeeds c = λ all.
    let f : List ℕ = c.in-Some.group in
    let i = rw c.in-Some.is at c.loop-next.invariant in
    let ok : IsOk c.make_mark.result = c.make_mark.ensures.succeeds (i.added.kept c.args.txn f (all f i.next.0 i.next.1)) in
    search rules

pub returns-clause-ok : goal.returns-clause-ok
returns-clause-ok c =
    let i = rw (none_left c.loop-next.next c.in_default.not-Some) at c.loop-next.invariant in
    λ g there some. i.made g there some (dot_behind g c.args.key.now 0 there).0

pub returns-clause-unmarked : goal.returns-clause-unmarked
returns-clause-unmarked c =
    let i = rw (none_left c.loop-next.next c.in_default.not-Some) at c.loop-next.invariant in
    record {
      group = i.group;
      marked = λ g there some short. ap (λ (m : Modes). m.held) (i.modes c.args.txn g) ∙ i.marked g there some (dot_behind g c.args.key.now 0 there).0 short;
    }
