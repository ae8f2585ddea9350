-- Lists whose names stand by number: what is added to the names leaves the list as it is.
use Rattle.std.proofs.Common.{◌≡◌, ℕ, List, [], ◌∷◌, ◌++◌, length, zero, suc, map, slice_get, Option, None, Some, unwrap_or, refl, sym, ap, ap₂, ◌∙◌, subst}
use Rattle.std.specs.List.{AllByRecursion}
use Rattle.serial_spec.specs.declared.event.Event.{Event}
use Rattle.serial_spec.specs.declared.entry.Entry.{Entry}
use Rattle.serial_spec.specs.History.{Name}
use Rattle.event_lists.specs.declared.names.Asking.{Asking}
use Rattle.event_lists.specs.declared.entries.Noted.{Noted}
use Rattle.event_lists.specs.Lists.{HasName, HasNames, IsNamed, Keeps, entries_of, entry_at, event_at, events_of, name_at}

-- ---- lists

none_is_none : {X : Type 0} (x : X) → ◌≡◌ {A = Option X} None (Some x) → ⊥
none_is_none x e = cc

-- what stands in front of a list stands at the same place of the whole
at_front : {X : Type 0} (xs ys : List X) (n : ℕ) (x : X) → slice_get xs n ≡ Some x → slice_get (xs ++ ys) n ≡ Some x
at_front [] ys n x at = absurd (none_is_none x at)
at_front (y ∷ xs) ys zero x at = at
at_front (y ∷ xs) ys (suc n) x at = at_front xs ys n x at

pub kept_front : (xs ys : List Name) → Keeps xs (xs ++ ys)
kept_front xs ys n t at = at_front xs ys n t at

-- and behind it comes what is added
pub at_end : (xs : List Name) (t : Name) → slice_get (xs ++ t ∷ []) (length xs) ≡ Some t
at_end [] t = refl
at_end (x ∷ xs) t = at_end xs t

-- what all have that one at a place has
all_at : {X : Type 0} (P : X → Type 0) (xs : List X) (n : ℕ) (x : X) → AllByRecursion P xs → slice_get xs n ≡ Some x → P x
all_at P [] n x all at = absurd (none_is_none x at)
all_at P (y ∷ xs) zero x all at = let same : y ≡ x = cc in subst P same all.0
all_at P (y ∷ xs) (suc n) x all at = all_at P xs n x all.1 at

all_and : {X : Type 0} (P : X → Type 0) (xs : List X) (x : X) → AllByRecursion P xs → P x → AllByRecursion P (xs ++ x ∷ [])
all_and P [] x all one = (one, tt)
all_and P (y ∷ xs) x all one = (all.0, all_and P xs x all.1 one)

all_then : {X : Type 0} (P Q : X → Type 0) (xs : List X) → ((x : X) → P x → Q x) → AllByRecursion P xs → AllByRecursion Q xs
all_then P Q [] then all = tt
all_then P Q (x ∷ xs) then all = (then x all.0, all_then P Q xs then all.1)

same_map : {X Y : Type 0} (P : X → Type 0) (f g : X → Y) (xs : List X) → ((x : X) → P x → f x ≡ g x) → AllByRecursion P xs → map f xs ≡ map g xs
same_map P f g [] same all = refl
same_map {X} {Y} P f g (x ∷ xs) same all = ap₂ (λ (y : Y) (ys : List Y). y ∷ ys) (same x all.0) (same_map P f g xs same all.1)

map_and : {X Y : Type 0} (f : X → Y) (xs : List X) (x : X) → map f (xs ++ x ∷ []) ≡ map f xs ++ f x ∷ []
map_and f [] x = refl
map_and {X} {Y} f (y ∷ xs) x = ap (λ (ys : List Y). f y ∷ ys) (map_and f xs x)

-- ---- names

pub found : (names : List Name) (n : ℕ) (t : Name) → slice_get names n ≡ Some t → name_at names n ≡ t
found names n t at = ap (λ (x : Option Name). unwrap_or x []) at

still : (a b : List Name) (n : ℕ) → Keeps a b → IsNamed a n → IsNamed b n
still a b n keeps named = (named.0, keeps n named.0 named.1)

kept_name : (a b : List Name) (n : ℕ) → Keeps a b → IsNamed a n → name_at b n ≡ name_at a n
kept_name a b n keeps named = found b n named.0 (keeps n named.0 named.1) ∙ sym (found a n named.0 named.1)

-- ---- events

pub kept_events : (a b : List Name) (asked : List Asking) → Keeps a b → AllByRecursion (HasName a) asked → events_of b asked ≡ events_of a asked
kept_events a b asked keeps all =
    same_map (HasName a) (event_at b) (event_at a) asked (λ x named. rw (kept_name a b x.name keeps named) refl) all

pub events_and : (a b : List Name) (asked : List Asking) (x : Asking) → Keeps a b → AllByRecursion (HasName a) asked
    → events_of b (asked ++ x ∷ []) ≡ events_of a asked ++ event_at b x ∷ []
events_and a b asked x keeps all = map_and (event_at b) asked x ∙ ap (λ (es : List Event). es ++ event_at b x ∷ []) (kept_events a b asked keeps all)

pub named_and : (a b : List Name) (asked : List Asking) (x : Asking) → Keeps a b → AllByRecursion (HasName a) asked → HasName b x
    → AllByRecursion (HasName b) (asked ++ x ∷ [])
named_and a b asked x keeps all one = all_and (HasName b) asked x (all_then (HasName a) (HasName b) asked (λ y named. still a b y.name keeps named) all) one

pub named_at : (names : List Name) (asked : List Asking) (n : ℕ) (x : Asking) → AllByRecursion (HasName names) asked → slice_get asked n ≡ Some x → HasName names x
named_at names asked n x all at = all_at (HasName names) asked n x all at

-- ---- entries

kept_entry : (a b : List Name) (n : Noted) → Keeps a b → HasNames a n → entry_at b n ≡ entry_at a n
kept_entry a b n keeps has = rw (kept_name a b n.event.name keeps has.0, kept_name a b n.top keeps has.1) refl

pub entries_and : (a b : List Name) (notes : List Noted) (n : Noted) → Keeps a b → AllByRecursion (HasNames a) notes
    → entries_of b (notes ++ n ∷ []) ≡ entries_of a notes ++ entry_at b n ∷ []
entries_and a b notes n keeps all =
    map_and (entry_at b) notes n
    ∙ ap (λ (es : List Entry). es ++ entry_at b n ∷ []) (same_map (HasNames a) (entry_at b) (entry_at a) notes (λ x has. kept_entry a b x keeps has) all)

pub notes_and : (a b : List Name) (notes : List Noted) (n : Noted) → Keeps a b → AllByRecursion (HasNames a) notes → HasNames b n
    → AllByRecursion (HasNames b) (notes ++ n ∷ [])
notes_and a b notes n keeps all one =
    all_and (HasNames b) notes n
    (all_then (HasNames a) (HasNames b) notes (λ x has. (still a b x.event.name keeps has.0, still a b x.top keeps has.1)) all) one

pub notes_at : (names : List Name) (notes : List Noted) (k : ℕ) (n : Noted) → AllByRecursion (HasNames names) notes → slice_get notes k ≡ Some n → HasNames names n
notes_at names notes k n all at = all_at (HasNames names) notes k n all at
