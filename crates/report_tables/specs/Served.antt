-- Accesses that are done one after the other over the values of their keys.
use Rattle.std.specs.Prelude.{◌≡◌, ℕ, Bool, List, [], ◌∷◌, reverse, Option, Some, None, if◌then◌else◌}
use Rattle.std.specs.Map.{keys_of}
use Rattle.serial_spec.specs.declared.target.Asked.{Asked}
use Rattle.serial_spec.specs.declared.operation.Reply.{Reply}
use Rattle.serial_spec.specs.Flat.{same_reply}
use Rattle.serial_spec.specs.Serial.{after_asked, reply_at}
use Rattle.report_check.specs.Serving.{PlacedAccess, least, or_least, map_behind, wrong_lines}
use Rattle.report_tables.specs.Chained.{Asks, IsPlaced, Known, Leads}
use Rattle.report_tables.specs.Valued.{Values, value_at}
use Rattle.report_tables.specs.declared.chains.Access.{Access}

-- whether the reply is the one due to who asks this
abbrev pub is_due : Values → Asked → Reply → Bool
is_due es a r = same_reply r (reply_at (value_at es) a)

-- an access that asks this was done, whatever its reply, and it is told whether that was the one
-- due
pub record IsServed (a : Asked) (r : Reply) (old new : Values) (fits : Bool) : Type 0 where
  pub keys : keys_of new ≡ keys_of old
  pub values : value_at new ≡ after_asked (value_at old) a
  pub reply : fits ≡ is_due old a r

-- the accesses, the oldest first, were done, and the least line of one whose reply was not the one
-- due is told
pub record AreServed (ps : List PlacedAccess) (old new : Values) (wrong : Option ℕ) : Type 0 where
  pub keys : keys_of new ≡ keys_of old
  pub values : value_at new ≡ map_behind (value_at old) (reverse ps)
  pub wrong_line : wrong ≡ least (wrong_lines (value_at old) (reverse ps))

-- the access was done, and told are the lines that were wrong: those before, and this one's if it
-- is
abbrev pub IsToldBy : Access → Asked → Values → Values → Option ℕ → Option ℕ → Type 0
IsToldBy a q old new before told =
    (fits : Bool) × IsServed q a.reply old new fits
    × (told ≡ (if fits then before else Some (or_least a.line before)))

-- none is left, and nothing changes; or the first of those that are left is done, and the next
-- stands where it leads
abbrev pub GoesOn : List Access → Known → Option ℕ → List PlacedAccess → Values → Values → Option ℕ
    → Option ℕ × Option ℕ → Type 0
GoesOn acs known last [] old new wrong r = (r ≡ (None, wrong)) × (new ≡ old)
GoesOn acs known last (p ∷ rest) old new wrong r =
    (i : ℕ) × (a : Access) × IsPlaced known a p × Leads acs known r.0 (Some i) last rest
    × IsToldBy a p.asked old new wrong r.1

-- ---- by whatever the numbers of keys and groups stand for

-- the access was done, and it is told whether its reply was the one due
abbrev pub ServesAccess : Access → Known → Values → Values → Bool → Type 0
ServesAccess x known old new fits =
    (a : Asked) → Asks known x.asked a → IsServed a x.reply old new fits

-- the same, and told are the lines that were wrong
abbrev pub TellsAccess : Access → Known → Values → Values → Option ℕ → Option ℕ → Type 0
TellsAccess x known old new before told =
    (a : Asked) → Asks known x.asked a → IsToldBy x a old new before told

-- the first of those that are left was done, and it is told where the next one stands
abbrev pub ServesOne : List Access → Known → Option ℕ → Values → Values → Option ℕ
    → Option ℕ × Option ℕ → Type 0
ServesOne acs known at old new wrong r =
    (before last : Option ℕ) (rest : List PlacedAccess) → Leads acs known at before last rest
    → GoesOn acs known last rest old new wrong r

-- all from this place on were done
abbrev pub ServesFrom : List Access → Known → Option ℕ → Values → Values → Option ℕ → Type 0
ServesFrom acs known first old new wrong =
    (last : Option ℕ) (ps : List PlacedAccess) → Leads acs known first None last ps
    → AreServed ps old new wrong
