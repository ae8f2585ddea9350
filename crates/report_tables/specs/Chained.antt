-- The accesses of transactions, one behind the other, with keys and groups by their numbers.
use Rattle.std.specs.Prelude.{◌≡◌, ℕ, List, [], ◌∷◌, slice_get, Option, Some, None}
use Rattle.std.specs.Option.{option_or}
use Rattle.txn_tree.specs.Linked.{update_at}
use Rattle.serial_spec.specs.declared.target.Asked.{Asked}
use Rattle.serial_spec.specs.declared.target.Asked.TheVariants as asked
use Rattle.report_check.specs.Serving.{PlacedAccess}
use Rattle.report_tables.specs.declared.chains.Access.{Access}
use Rattle.report_tables.specs.declared.chains.Chain.{Chain}
use Rattle.report_tables.specs.declared.chains.ByNumber.{ByNumber}
use Rattle.report_tables.specs.declared.chains.ByNumber.TheVariants.{At, Over}

abbrev pub no_chain : Chain
no_chain = record { first = None; last = None }

abbrev pub one_access : ℕ → Chain
one_access n = record { first = Some n; last = Some n }

-- the first, and the second behind it
abbrev pub joined : Chain → Chain → Chain
joined c d = record { first = option_or c.first d.first; last = option_or d.last c.last }

abbrev pub chain_in : Option Chain → Chain
chain_in None = no_chain
chain_in (Some c) = c

abbrev pub leading_to : Option ℕ → Access → Access
leading_to n a = record { line = a.line; asked = a.asked; reply = a.reply; next = n }

-- the one access leads to the other, where there are both
abbrev pub led : List Access → Option ℕ → Option ℕ → List Access
led acs None n = acs
led acs (Some i) None = acs
led acs (Some i) (Some n) = update_at acs i (leading_to (Some n))

-- the keys and the groups that were named, each at its number
pub record Known : Type 0 where
  pub keys : List (List ℕ)
  pub groups : List (List ℕ)

abbrev pub known_by : List (List ℕ) → List (List ℕ) → Known
known_by ks gs = record { keys = ks; groups = gs }

-- with numbers for the key or the group this is asked
abbrev pub Asks : Known → ByNumber → Asked → Type 0
Asks known (At i o) (asked.At k q) = (slice_get known.keys i ≡ Some k) × (o ≡ q)
Asks known (At i o) (asked.Over g) = ⊥
Asks known (Over i) (asked.At k q) = ⊥
Asks known (Over i) (asked.Over g) = slice_get known.groups i ≡ Some g

-- the access is this one
pub record IsPlaced (known : Known) (a : Access) (p : PlacedAccess) : Type 0 where
  pub line : a.line ≡ p.line
  pub asked : Asks known a.asked p.asked
  pub reply : a.reply ≡ p.reply

-- From the place `at` on, behind the place `before`, the accesses are these, and the last of them
-- stands at `last`
abbrev pub Leads : List Access → Known → Option ℕ → Option ℕ → Option ℕ → List PlacedAccess → Type 0
Leads acs known at before last [] = (at ≡ None) × (last ≡ before)
Leads acs known at before last (p ∷ ps) =
    (i : ℕ) × (a : Access) × (at ≡ Some i) × (slice_get acs i ≡ Some a) × IsPlaced known a p
    × Leads acs known a.next (Some i) last ps

-- the accesses of the chain are these, the oldest first
abbrev pub Holds : List Access → Known → Chain → List PlacedAccess → Type 0
Holds acs known c ps = Leads acs known c.first None c.last ps
