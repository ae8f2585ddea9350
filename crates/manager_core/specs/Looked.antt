-- Accesses that were seen kept out, and that are so still.
use Rattle.std.specs.Prelude.{◌≡◌, ℕ, true, false, List, slice_get, Some}
use Rattle.std.specs.Int.{bit_at}
use Rattle.txn_tree.specs.States.{States}
use Rattle.txn_tree.specs.Numbered.{is_under}
use Rattle.lock_table.specs.Blocking.{has_number}
use Rattle.lock_table.specs.ByAsked.{BlocksAsked}
use Rattle.lock_table.specs.Targeted.{Targeted}
use Rattle.serial_spec.specs.declared.entry.By.{By}
use Rattle.serial_spec.specs.declared.entry.By.TheVariants.{Line}
use Rattle.serial_spec.specs.declared.target.Asked.{Asked}
use Rattle.wait_cycles.specs.declared.waits.Wait.{Wait}
use Rattle.wait_cycles.specs.Waiting.{wait_in}
use Rattle.manager_core.specs.declared.looks.Looks.{Looks}

-- the access of the line's session that was last seen is by this line, of the transaction with the
-- number n, and was kept out by the one with the number m
abbrev pub IsLast : Looks → By → ℕ → ℕ → Type 0
IsLast looks (Line s l) n m =
    slice_get looks.last s ≡ Some (record { txn = n; line = l; keeper = m })
IsLast looks by n m = ⊥

-- and it stands
abbrev pub HasSeen : Looks → By → ℕ → ℕ → Type 0
HasSeen looks (Line s l) n m =
    (bit_at looks.stands s ≡ 1) × IsLast looks (Line s l) n m
HasSeen looks by n m = ⊥

-- an access of the session does
pub record SomeStands (looks : Looks) (s : ℕ) : Type 0 where
  pub line : ℕ
  pub txn : ℕ
  pub keeper : ℕ
  pub seen : HasSeen looks (Line s line) txn keeper

-- neither n nor m is at or below t
pub record IsApart (tree : States) (t n m : ℕ) : Type 0 where
  pub waiter : is_under tree t n ≡ false
  pub keeper : is_under tree t m ≡ false

-- the transaction with the number n has begun, it waits by this line, and the one with the number m
-- keeps it from what it asks
pub record IsKeptFrom (tree : States) (locks : Targeted) (waits : List Wait) (by : By)
    (n m : ℕ) : Type 0 where
  pub begun : has_number tree n ≡ true
  pub asked : Asked
  pub waiting : wait_in waits n ≡ Some (record { txn = n; asked = asked; by = by })
  pub blocks : BlocksAsked tree locks n asked m

-- whoever was seen waits and is kept out still, by whom it was
abbrev pub AreSeen : States → Targeted → List Wait → Looks → Type 0
AreSeen tree locks waits looks = (by : By) (n m : ℕ) → HasSeen looks by n m
    → IsKeptFrom tree locks waits by n m
