-- The transactions that a report tells of, as they are kept: what the history says of each.
use Rattle.std.specs.Prelude.{◌≡◌, ◌+◌, ℕ, suc, Bool, true, false, List, [], ◌∷◌, length, reverse, slice_get, Some}
use Rattle.txn_names.specs.Path.{parent}
use Rattle.txn_tree.specs.States.{States, names, status_in}
use Rattle.txn_tree.specs.Statuses.{status_of}
use Rattle.txn_tree.specs.Asked.{is_absent_in, is_live_in}
use Rattle.serial_spec.specs.declared.entry.Entry.{Entry}
use Rattle.serial_spec.specs.declared.target.Asked.{Asked}
use Rattle.serial_spec.specs.History.{Name, History, Effect, Accesses, effect, status, begun, has_begun, has_committed, has_aborted}
use Rattle.report_check.specs.Passing.{may_do}
use Rattle.report_check.specs.Serving.{accesses_of}
use Rattle.report_check.proofs.Exports.{IsGrown}
use Rattle.report_tables.specs.Chained.{Asks, Holds, Known}
use Rattle.report_tables.specs.declared.chains.Access.{Access}
use Rattle.report_tables.specs.declared.chains.Chain.{Chain}
use Rattle.report_tables.specs.declared.transactions.Transactions.{Transactions}

-- who has ended had begun, and the root never did
pub record IsEnded (h : History) : Type 0 where
  pub rootless : has_begun h [] ≡ false
  pub committed : (t : Name) → has_committed h t ≡ true → has_begun h t ≡ true
  pub aborted : (t : Name) → has_aborted h t ≡ true → has_begun h t ≡ true

-- the tree is what the history says
pub record IsTreeOf (h : History) (tree : States) : Type 0 where
  pub begun : names tree ≡ reverse (begun h)
  pub status : (t : Name) → status_of (status_in tree t) ≡ status h t
  pub ended : IsEnded h

-- the root, and behind it those that have begun
abbrev pub places : States → List Name
places tree = [] ∷ names tree

-- the parent of the transaction with this number stands at the place k
abbrev pub AboveAt : States → ℕ → ℕ → Type 0
AboveAt tree n k = (t : Name) → slice_get (names tree) n ≡ Some t
    → slice_get (places tree) k ≡ Some (parent t)

-- Of the root and of each transaction that is live the chain has its accesses, and no two of them
-- end at one place. So many lines stand before the entries
pub record AreChainsOf (base : ℕ) (known : Known) (h : History) (tree : States) (acs : List Access)
    (chains : List Chain) : Type 0 where
  pub level : length chains ≡ length (places tree)
  pub each : (k : ℕ) (t : Name) (c : Chain) → slice_get (places tree) k ≡ Some t
      → slice_get chains k ≡ Some c → is_live_in tree t ≡ true
      → Holds acs known c (reverse (accesses_of base h t))
  pub apart : (k l : ℕ) (t u : Name) (c d : Chain) (i : ℕ) → slice_get (places tree) k ≡ Some t
      → slice_get (places tree) l ≡ Some u
      → slice_get chains k ≡ Some c → slice_get chains l ≡ Some d → is_live_in tree t ≡ true
      → is_live_in tree u ≡ true → c.last ≡ Some i → d.last ≡ Some i → k ≡ l
  pub fresh : (t : Name) → is_absent_in tree t ≡ true → accesses_of base h t ≡ []

pub record AreTransactionsOf (base : ℕ) (known : Known) (h : History)
    (x : Transactions) : Type 0 where
  pub in_tree : IsTreeOf h x.tree
  pub grown : IsGrown h
  pub in_chains : AreChainsOf base known h x.tree x.accesses.items x.chains.items

-- it is told whether the effect may come, and if so what holds of an entry that has it
abbrev pub Comes : Bool → History → Effect → (Entry → Type 0) → Type 0
Comes true h x P = (may_do h x ≡ true) × ((e : Entry) → effect e ≡ x → P e)
Comes false h x P = may_do h x ≡ false

-- it is told whether the effect may come to any history of these transactions, and if so they are
-- as an entry leaves them that has it
abbrev pub TakesEffect : Effect → Transactions → Transactions → Bool → Type 0
TakesEffect x old new ok =
    (base : ℕ) (known : Known) (h : History) → AreTransactionsOf base known h old
    → Comes ok h x (λ e. AreTransactionsOf base known (e ∷ h) new)

-- the same of an access, of which the next line tells
abbrev pub TakesAccess : Name → Access → Transactions → Transactions → Bool → Type 0
TakesAccess name access old new ok =
    (base : ℕ) (known : Known) (h : History) (a : Asked) → AreTransactionsOf base known h old
    → access.line ≡ base + suc (length h) → Asks known access.asked a
    → Comes ok h (Accesses name a access.reply) (λ e. AreTransactionsOf base known (e ∷ h) new)
