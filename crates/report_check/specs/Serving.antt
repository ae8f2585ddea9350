-- The second pass: the committed top-level transactions are run over one plain map.
use Rattle.std.specs.Prelude.{ℕ, suc, ◌+◌, min, if◌then◌else◌, List, [], ◌∷◌, ◌++◌, length, Option, Some, None}
use Rattle.txn_names.specs.Path.{path_eq, parent}
use Rattle.serial_spec.specs.declared.target.Asked.{Asked}
use Rattle.serial_spec.specs.declared.operation.Reply.{Reply}
use Rattle.serial_spec.specs.History.{History, Name, Effect, Accesses, Commits, effect}
use Rattle.serial_spec.specs.Serial.{Map, after_asked, reply_at}
use Rattle.serial_spec.specs.Flat.{same_reply}

-- an access, a sum or one at a key, and the line of the report that tells of it
pub record PlacedAccess : Type 0 where
  pub line : ℕ
  pub asked : Asked
  pub reply : Reply

-- The accesses of t and of the children that have committed into it, the newest first. A child's
-- stand where it committed
abbrev pub with_access : Name → Effect → ℕ → (Name → List PlacedAccess) → List PlacedAccess
with_access t (Accesses u a r) n before = if path_eq u t
    then record { line = n; asked = a; reply = r } ∷ before t else before t
with_access t (Commits u) n before = if path_eq (parent u) t then before u ++ before t else before t
with_access t x n before = before t

-- so many lines stand before the entries
abbrev pub accesses_of : ℕ → History → Name → List PlacedAccess
accesses_of n [] t = []
accesses_of n (e ∷ h) t = with_access t (effect e) (n + suc (length h)) (accesses_of n h)

-- the map after them, whatever their replies
abbrev pub map_behind : Map → List PlacedAccess → Map
map_behind m [] = m
map_behind m (a ∷ rest) = after_asked (map_behind m rest) a.asked

-- the lines whose reply is not the one that is due at the map that stands there
abbrev pub wrong_lines : Map → List PlacedAccess → List ℕ
wrong_lines m [] = []
wrong_lines m (a ∷ rest) =
    if same_reply a.reply (reply_at (map_behind m rest) a.asked) then wrong_lines m rest
    else a.line ∷ wrong_lines m rest

abbrev pub or_least : ℕ → Option ℕ → ℕ
or_least n None = n
or_least n (Some m) = min n m

abbrev pub least : List ℕ → Option ℕ
least [] = None
least (n ∷ ns) = Some (or_least n (least ns))
