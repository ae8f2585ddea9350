-- A manager that was opened, over a store that gave few enough rows.
use Rattle.std.proofs.Common.{length, ap, sym, subst, ◌∙◌, arith}
use Rattle.serial_spec.specs.Rows.{IsRising, value_in}
use Rattle.durable_top.specs.declared.store.TopStore.{Ghosts}
use Rattle.manager_core.specs.State.{State}
use Rattle.manager_core.specs.Opening.{HasGivenFew, IsOpened}
use Rattle.manager_core.proofs.Exports.{as_many}

pub given_few : {S : Type 0} (g : Ghosts S) (store : S) (m : State S) → IsOpened g store m → HasGivenFew g store
given_few g store m opened = record {
  left = m.store;
  rows = m.opened.given.items;
  loaded = opened.loaded;
  later = opened.later;
  crash = opened.crash;
  are = λ none. sym (ap value_in opened.are) ∙ opened.rows none;
  rising = subst IsRising opened.are opened.rising;
  few = omega (arith, opened.few, ap length opened.are, as_many m.opened.given.items);
}
