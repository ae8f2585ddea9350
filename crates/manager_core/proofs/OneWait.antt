-- A line by which an access waits may be attempted with the event of this access alone.
use Rattle.std.proofs.Common.{◌≡◌, ◌⊎◌, inl, inr, sym, ap, ◌∙◌}
use Rattle.std.proofs.lemmas.Bool.{false≢true}
use Rattle.serial_spec.specs.declared.entry.By.{By}
use Rattle.serial_spec.specs.declared.entry.Entry.{Entry}
use Rattle.serial_spec.specs.declared.event.Event.{Event}
use Rattle.serial_spec.specs.declared.event.Event.TheVariants.{Abort, Access, Sum, After, Begin, Commit}
use Rattle.serial_spec.specs.declared.target.Asked.{Asked}
use Rattle.serial_spec.specs.declared.target.Asked.TheVariants.{At, Over}
use Rattle.serial_spec.specs.History.{Name, History, event_of}
use Rattle.manager_core.specs.Lines.{IsFree, IsWaitOf}
use Rattle.manager_core.proofs.Events.{IsOwnWait, own_wait}
use Rattle.manager_core.proofs.Lasting.{one_wait, other_line}

module _ (h : History) (by : By) (t : Name) (asked : Asked) (waits : IsWaitOf h by (event_of t asked)) where
  own : IsOwnWait h by t asked
  own = own_wait h by t asked waits

  -- the line is free for nothing
  not_free : (e : Event) → IsFree h by e → ⊥
  not_free e free = false≢true (sym (other_line h by e free t own.wait own.waits) ∙ own.of_line)

  -- and another wait of the line is this one
  other : (u : Name) (a : Asked) → IsWaitOf h by (event_of u a) → event_of u a ≡ event_of t asked
  other u a w =
      let its = own_wait h by u a w in
      let one = one_wait h by t u own.wait its.wait own.waits own.of_line its.waits its.of_line in
      sym its.event_is ∙ sym (ap (λ (x : Entry). x.event) one) ∙ own.event_is

  same_wait : (e : Event) → IsWaitOf h by e → e ≡ event_of t asked
  same_wait (Access u k o) w = other u (At k o) w
  same_wait (Sum u g) w = other u (Over g) w
  same_wait (Begin u) w = absurd w
  same_wait (Commit u) w = absurd w
  same_wait (Abort u) w = absurd w
  same_wait (After u m) w = absurd w

  pub only_event : (e : Event) → IsFree h by e ⊎ IsWaitOf h by e → e ≡ event_of t asked
  only_event e (inl free) = absurd (not_free e free)
  only_event e (inr w) = same_wait e w
