-- What the entries of a report tell of each transaction, by the marks of the entries from the one
-- with the number n on.
use Rattle.std.specs.Prelude.{◌≡◌, ◌≤◌, ℕ, zero, suc, ◌+◌, ◌-◌, ◌^◌, ◌==◌, min, reverse, slice_get, Bool, true, false, if◌then◌else◌, List, [], ◌∷◌, ◌++◌, length, nat_eq, Option, Some, None}
use Rattle.indexmap.specs.IndexMap.{get}
use Rattle.report_marks.specs.declared.deeds.Deed.{Deed}
use Rattle.report_marks.specs.declared.deeds.Deed.TheVariants as deed
use Rattle.report_marks.specs.declared.deeds.Doer.{Doer}
use Rattle.report_marks.specs.declared.deeds.Doer.TheVariants as doer
use Rattle.report_marks.specs.declared.deeds.Mark.{Mark}
use Rattle.report_trees.specs.declared.outcomes.Ending.{Ending}
use Rattle.report_trees.specs.declared.outcomes.Ending.TheVariants as ending
use Rattle.report_trees.specs.declared.telling.Abort.{Abort}
use Rattle.report_trees.specs.declared.telling.Telling.{Telling}
use Rattle.report_trees.specs.declared.telling.Told.{Told}
use Rattle.report_trees.specs.declared.telling.Wait.{Wait}

-- ---- the first entry of a kind

-- what the first entry gives that gives something
abbrev pub or_first : {X : Type 0} → Option X → Option X → Option X
or_first (Some x) rest = Some x
or_first None rest = rest

abbrev pub first_of : {X : Type 0} → (ℕ → Mark → Option X) → ℕ → List Mark → Option X
first_of f n [] = None
first_of f n (m ∷ ms) = or_first (f n m) (first_of f (suc n) ms)

abbrev pub only_if : {X : Type 0} → Bool → X → Option X
only_if true x = Some x
only_if false x = None

-- the entry with the number n begins the transaction i
abbrev pub begins : ℕ → ℕ → Deed → Option ℕ
begins i n (deed.Began j) = only_if (i == j) n
begins i n d = None

abbrev pub commits : ℕ → ℕ → Deed → Option ℕ
commits i n (deed.Committed j) = only_if (i == j) n
commits i n d = None

abbrev pub ending_of : Doer → Ending
ending_of (doer.Session s) = ending.Request
ending_of doer.Victim = ending.Victim
ending_of doer.Close = ending.Close

abbrev pub aborts : ℕ → ℕ → Doer → Deed → Option Abort
aborts i n by (deed.Aborted j) = only_if (i == j) (record { at = n; by = ending_of by })
aborts i n by d = None

-- ---- accesses, and how long they waited

-- how many pass
abbrev pub how_many : {X : Type 0} → (X → Bool) → List X → ℕ
how_many p [] = 0
how_many p (x ∷ xs) = if p x then suc (how_many p xs) else how_many p xs

abbrev pub is_access : ℕ → Deed → Bool
is_access i (deed.Accessed j) = i == j
is_access i d = false

abbrev pub is_of : ℕ → Doer → Bool
is_of s (doer.Session r) = s == r
is_of s d = false

-- the next entry of the session
abbrev pub next_of : ℕ → ℕ → List Mark → Option ℕ
next_of s n ms = first_of (λ k m. only_if (is_of s m.by) k) n ms

abbrev pub wait_until : ℕ → ℕ → Option ℕ → List Wait
wait_until i n (Some k) = record { number = i; from = n; to = k } ∷ []
wait_until i n None = []

-- a line of the session s waits by the entry with the number n, and its next entry answers it
abbrev pub wait_at : ℕ → Doer → Deed → List Mark → List Wait
wait_at n (doer.Session s) (deed.Waits i) ms = wait_until i n (next_of s (suc n) ms)
wait_at n b d ms = []

-- all waits, the first begun first
abbrev pub waits_in : ℕ → List Mark → List Wait
waits_in n [] = []
waits_in n (m ∷ ms) = wait_at n m.by m.deed ms ++ waits_in (suc n) ms

abbrev pub is_waiter : ℕ → Wait → Bool
is_waiter i w = i == w.number

-- as far as 64 bits go
abbrev pub capped : ℕ → ℕ
capped n = min n (2 ^ 64 - 1)

-- for how many entries the transaction i waited
abbrev pub entries_waited : ℕ → List Wait → ℕ
entries_waited i [] = 0
entries_waited i (w ∷ ws) =
    if is_waiter i w then capped (entries_waited i ws + (w.to - w.from)) else entries_waited i ws

-- ---- all that is told of the transaction i

abbrev pub told_of : ℕ → List Mark → ℕ → Told
told_of n ms i =
    record {
      began = first_of (λ k m. begins i k m.deed) n ms;
      committed = first_of (λ k m. commits i k m.deed) n ms;
      aborted = first_of (λ k m. aborts i k m.by m.deed) n ms;
      accesses = how_many (λ m. is_access i m.deed) ms;
      waits = how_many (is_waiter i) (waits_in n ms);
      waited = entries_waited i (waits_in n ms);
    }

-- ---- the same, one entry earlier

-- the transaction whose begin, access, commit or abort it is
abbrev pub number_in : Deed → Option ℕ
number_in (deed.Began i) = Some i
number_in (deed.Accessed i) = Some i
number_in (deed.Committed i) = Some i
number_in (deed.Aborted i) = Some i
number_in d = None

abbrev pub told_by : ℕ → Doer → Deed → Told → Told
told_by n b (deed.Began i) t = record t { began = Some n }
told_by n b (deed.Accessed i) t = record t { accesses = capped (t.accesses + 1) }
told_by n b (deed.Committed i) t = record t { committed = Some n }
told_by n b (deed.Aborted i) t = record t { aborted = Some (record { at = n; by = ending_of b }) }
told_by n b d t = t

abbrev pub told_wait : Wait → Told → Told
told_wait w t =
    record t { waits = capped (t.waits + 1); waited = capped (t.waited + (w.to - w.from)) }

-- one of the list is another, if there is one with this number
abbrev pub changed : {X : Type 0} → ℕ → (X → X) → List X → List X
changed i f [] = []
changed zero f (x ∷ xs) = f x ∷ xs
changed (suc i) f (x ∷ xs) = x ∷ changed i f xs

abbrev pub changed_at : {X : Type 0} → Option ℕ → (X → X) → List X → List X
changed_at None f xs = xs
changed_at (Some i) f xs = changed i f xs

abbrev pub wait_list : Option Wait → List Wait
wait_list None = []
wait_list (Some w) = w ∷ []

-- these waits are told besides
abbrev pub changed_by : List Wait → List Told → List Told
changed_by [] ts = ts
changed_by (w ∷ ws) ts = changed w.number (told_wait w) (changed_by ws ts)

-- what is kept is what the entries from the one with the number n on tell of so many transactions
pub record IsTelling (count : ℕ) (n : ℕ) (ms : List Mark) (x : Telling) : Type 0 where
  pub told : (i : ℕ) (t : Told) → slice_get x.told.items i ≡ Some t → t ≡ told_of n ms i
  pub len : length x.told.items ≡ count
  pub waits : x.waits.items ≡ reverse (waits_in n ms)
  pub next : (s : ℕ) → get nat_eq x.next s ≡ next_of s n ms
