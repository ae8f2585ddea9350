-- Sessions that grow while they run: by a line behind the others of its session, or by a session
-- behind the others.
use Rattle.std.specs.Prelude.{◌≡◌, ◌<◌, ◌++◌, ℕ, zero, suc, if◌then◌else◌, List, [], ◌∷◌, length, IsFalse, Option, Some, None, option_map}
use Rattle.txn_names.specs.Path.{label_eq}
use Rattle.serial_spec.specs.declared.event.Event.{Event}
use Rattle.serial_spec.specs.Interleaving.{Session}
use Rattle.session_text.specs.Grammar.{is_taken}
use Rattle.session_text.specs.Texts.{label_at}

-- the place of the first session with this label, from 0
abbrev pub place_of : List ℕ → List Session → Option ℕ
place_of l [] = None
place_of l (s ∷ ss) = if label_eq l s.label then Some 0 else option_map suc (place_of l ss)

-- one line more of session s, and the same where there is no such session
abbrev pub with_line_of : List Session → ℕ → Event → List Session
with_line_of [] s e = []
with_line_of (x ∷ ss) zero e = record { label = x.label; lines = x.lines ++ e ∷ [] } ∷ ss
with_line_of (x ∷ ss) (suc s) e = x ∷ with_line_of ss s e

-- ---- laws

-- a label without a place is a new one; at its place stands a session with this label
abbrev pub PlacesFound : Type 0
PlacesFound =
    ((l : List ℕ) (ss : List Session) → place_of l ss ≡ None → IsFalse (is_taken l ss))
    × ((l : List ℕ) (ss : List Session) (s : ℕ) → place_of l ss ≡ Some s
    → (s < length ss) × (label_at ss s ≡ Some l))
