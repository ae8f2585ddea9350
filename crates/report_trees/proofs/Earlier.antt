-- What is told, one entry earlier.
use Rattle.std.proofs.Common.{◌≡◌, ℕ, zero, suc, ◌+◌, ◌-◌, ◌^◌, ◌<◌, ◌≤◌, min, Bool, true, false, cond, List, [], ◌∷◌, ◌++◌, length, Option, Some, None, is_some, unwrap_or, get_or, drop, Result, Ok, Err, refl, true≢false, length-drop, drop-cons, sym, ap, subst, ◌∙◌, arith, append-nil}
use Rattle.std.specs.Prelude.{nat_eq, option_map, replicate, reverse, slice_get, OnOk}
use Rattle.indexmap.specs.IndexMap.{get}
use Rattle.std.proofs.lemmas.List.{reverse-append}
use Rattle.report_marks.specs.declared.deeds.Deed.{Deed}
use Rattle.report_marks.specs.declared.deeds.Deed.TheVariants as deed
use Rattle.report_marks.specs.declared.deeds.Doer.{Doer}
use Rattle.report_marks.specs.declared.deeds.Doer.TheVariants as doer
use Rattle.report_marks.specs.declared.deeds.Mark.{Mark}
use Rattle.report_trees.specs.Telling.{aborts, begins, capped, changed, changed_at, changed_by, commits, ending_of, entries_waited, IsTelling, first_of, how_many, is_access, is_waiter, next_of, number_in, only_if, or_first, told_by, told_of, told_wait, wait_at, wait_list, wait_until, waits_in}
use Rattle.report_trees.specs.declared.telling.Abort.{Abort}
use Rattle.report_trees.specs.declared.telling.Told.{Told}
use Rattle.report_trees.specs.declared.telling.Telling.{Telling}
use Rattle.report_trees.specs.declared.telling.Wait.{Wait}
use Rattle.report_trees.proofs.Changing.{at_number, get_changed, length_changed}

-- ---- counts fit

one_more : (b : Bool) (k l : ℕ) → k ≤ l → cond b (suc k) k ≤ suc l
one_more true k l le = omega (arith, le)
one_more false k l le = omega (arith, le)

few_of : {X : Type 0} (p : X → Bool) (xs : List X) → how_many p xs ≤ length xs
few_of p [] = omega arith
few_of p (x ∷ xs) = one_more (p x) (how_many p xs) (length xs) (few_of p xs)

until_few : (i n : ℕ) (o : Option ℕ) (ws : List Wait) (k : ℕ) → length ws ≤ k → length (wait_until i n o ++ ws) ≤ suc k
until_few i n None ws k le = omega (arith, le)
until_few i n (Some t) ws k le = omega (arith, le)

at_few : (n : ℕ) (b : Doer) (d : Deed) (ms : List Mark) (ws : List Wait) (k : ℕ) → length ws ≤ k → length (wait_at n b d ms ++ ws) ≤ suc k
at_few n (doer.Session s) (deed.Waits i) ms ws k le = until_few i n (next_of s (suc n) ms) ws k le
at_few n (doer.Session s) (deed.Began i) ms ws k le = omega (arith, le)
at_few n (doer.Session s) (deed.Accessed i) ms ws k le = omega (arith, le)
at_few n (doer.Session s) (deed.Committed i) ms ws k le = omega (arith, le)
at_few n (doer.Session s) (deed.Aborted i) ms ws k le = omega (arith, le)
at_few n (doer.Session s) deed.Stuck ms ws k le = omega (arith, le)
at_few n (doer.Session s) (deed.Refused c) ms ws k le = omega (arith, le)
at_few n (doer.Session s) deed.Other ms ws k le = omega (arith, le)
at_few n doer.Victim d ms ws k le = omega (arith, le)
at_few n doer.Close d ms ws k le = omega (arith, le)

waits_few : (n : ℕ) (ms : List Mark) → length (waits_in n ms) ≤ length ms
waits_few n [] = omega arith
waits_few n (m ∷ ms) = at_few n m.by m.deed ms (waits_in (suc n) ms) (length ms) (waits_few (suc n) ms)

-- ---- by each kind of entry

abbrev pub with_deed : ℕ → Option ℕ → (Told → Told) → Told → Told
with_deed i None f u = u
with_deed i (Some j) f u = at_number i j f u

abbrev pub with_waits : ℕ → List Wait → Told → Told
with_waits i [] u = u
with_waits i (w ∷ ws) u = at_number i w.number (told_wait w) (with_waits i ws u)

module _ (n : ℕ) (ms : List Mark) (few : length ms < 2 ^ 63) (i : ℕ) where
  abbrev later : Told
  later = told_of (suc n) ms i

  abbrev now : Doer → Deed → Told
  now b d = told_of n (record { by = b; deed = d } ∷ ms) i

  began : (c : Bool) → record later { began = or_first (only_if c n) later.began } ≡ cond c (record later { began = Some n }) later
  began true = refl
  began false = refl

  committed : (c : Bool) → record later { committed = or_first (only_if c n) later.committed } ≡ cond c (record later { committed = Some n }) later
  committed true = refl
  committed false = refl

  aborted : (b : Doer) (c : Bool) → record later { aborted = or_first (only_if c (record { at = n; by = ending_of b })) later.aborted } ≡ cond c (record later { aborted = Some (record { at = n; by = ending_of b }) }) later
  aborted b true = refl
  aborted b false = refl

  accessed : (c : Bool) → record later { accesses = cond c (suc later.accesses) later.accesses } ≡ cond c (record later { accesses = capped (later.accesses + 1) }) later
  accessed true =
      let fits = few_of (λ m. is_access i m.deed) ms in
      let same : suc later.accesses ≡ min (later.accesses + 1) (2 ^ 64 - 1) = omega (arith, fits, few) in
      ap (λ k. record later { accesses = k }) same
  accessed false = refl

  waited : (w : Wait) (c : Bool)
      → record later { waits = cond c (suc later.waits) later.waits; waited = cond c (capped (later.waited + (w.to - w.from))) later.waited }
      ≡ cond c (told_wait w later) later
  waited w true =
      let fits = few_of (is_waiter i) (waits_in (suc n) ms) in
      let same : suc later.waits ≡ min (later.waits + 1) (2 ^ 64 - 1) = omega (arith, fits, few, waits_few (suc n) ms) in
      ap (λ k. record later { waits = k; waited = capped (later.waited + (w.to - w.from)) }) same
  waited w false = refl

  waits_until : (k : ℕ) (o : Option ℕ)
      → record later {
        waits = how_many (is_waiter i) (wait_until k n o ++ waits_in (suc n) ms);
        waited = entries_waited i (wait_until k n o ++ waits_in (suc n) ms);
      }
      ≡ with_waits i (wait_until k n o) later
  waits_until k None = refl
  waits_until k (Some t) = waited (record { number = k; from = n; to = t }) (nat_eq i k)

  pub told_earlier : (b : Doer) (d : Deed) → now b d ≡ with_deed i (number_in d) (told_by n b d) (with_waits i (wait_at n b d ms) later)
  told_earlier (doer.Session s) (deed.Began j) = began (nat_eq i j)
  told_earlier (doer.Session s) (deed.Accessed j) = accessed (nat_eq i j)
  told_earlier (doer.Session s) (deed.Committed j) = committed (nat_eq i j)
  told_earlier (doer.Session s) (deed.Aborted j) = aborted (doer.Session s) (nat_eq i j)
  told_earlier (doer.Session s) (deed.Waits j) = waits_until j (next_of s (suc n) ms)
  told_earlier (doer.Session s) deed.Stuck = refl
  told_earlier (doer.Session s) (deed.Refused c) = refl
  told_earlier (doer.Session s) deed.Other = refl
  told_earlier doer.Victim (deed.Began j) = began (nat_eq i j)
  told_earlier doer.Victim (deed.Accessed j) = accessed (nat_eq i j)
  told_earlier doer.Victim (deed.Committed j) = committed (nat_eq i j)
  told_earlier doer.Victim (deed.Aborted j) = aborted doer.Victim (nat_eq i j)
  told_earlier doer.Victim (deed.Waits j) = refl
  told_earlier doer.Victim deed.Stuck = refl
  told_earlier doer.Victim (deed.Refused c) = refl
  told_earlier doer.Victim deed.Other = refl
  told_earlier doer.Close (deed.Began j) = began (nat_eq i j)
  told_earlier doer.Close (deed.Accessed j) = accessed (nat_eq i j)
  told_earlier doer.Close (deed.Committed j) = committed (nat_eq i j)
  told_earlier doer.Close (deed.Aborted j) = aborted doer.Close (nat_eq i j)
  told_earlier doer.Close (deed.Waits j) = refl
  told_earlier doer.Close deed.Stuck = refl
  told_earlier doer.Close (deed.Refused c) = refl
  told_earlier doer.Close deed.Other = refl

-- ---- in the table

get_changed_at : (us : List Told) (i : ℕ) (o : Option ℕ) (f : Told → Told) → slice_get (changed_at o f us) i ≡ option_map (with_deed i o f) (slice_get us i)
get_changed_at us i None f = same (slice_get us i)
  where
    same : (o : Option Told) → o ≡ option_map (λ x. x) o
    same None = refl
    same (Some x) = refl
get_changed_at us i (Some j) f = get_changed us i j f

twice : (o : Option Told) (f g : Told → Told) → option_map g (option_map f o) ≡ option_map (λ x. g (f x)) o
twice None f g = refl
twice (Some x) f g = refl

get_changed_by : (us : List Told) (i : ℕ) (ws : List Wait) → slice_get (changed_by ws us) i ≡ option_map (with_waits i ws) (slice_get us i)
get_changed_by us i [] = same (slice_get us i)
  where
    same : (o : Option Told) → o ≡ option_map (λ x. x) o
    same None = refl
    same (Some x) = refl
get_changed_by us i (w ∷ ws) =
    get_changed (changed_by ws us) i w.number (told_wait w) ∙ ap (option_map (at_number i w.number (told_wait w))) (get_changed_by us i ws)
    ∙ twice (slice_get us i) (with_waits i ws) (at_number i w.number (told_wait w))

mapped : (o : Option Told) (f : Told → Told) (t x : Told) → option_map f o ≡ Some t → ((u : Told) → o ≡ Some u → u ≡ x) → t ≡ f x
mapped None f t x e is = cc
mapped (Some u) f t x e is = let same : f u ≡ t = cc in sym same ∙ ap f (is u refl)

pub table_earlier : (n : ℕ) (ms : List Mark) → length ms < 2 ^ 63 → (b : Doer) (d : Deed) (us : List Told)
    → ((i : ℕ) (t : Told) → slice_get us i ≡ Some t → t ≡ told_of (suc n) ms i)
    → (i : ℕ) (t : Told) → slice_get (changed_at (number_in d) (told_by n b d) (changed_by (wait_at n b d ms) us)) i ≡ Some t → t ≡ told_of n (record { by = b; deed = d } ∷ ms) i
table_earlier n ms few b d us old i t at =
    let f = told_by n b d in
    let ws = wait_at n b d ms in
    let all : option_map (λ x. with_deed i (number_in d) f (with_waits i ws x)) (slice_get us i) ≡ Some t =
    sym (get_changed_at (changed_by ws us) i (number_in d) f ∙ ap (option_map (with_deed i (number_in d) f)) (get_changed_by us i ws) ∙ twice (slice_get us i) (with_waits i ws) (with_deed i (number_in d) f)) ∙ at in
    mapped (slice_get us i) (λ x. with_deed i (number_in d) f (with_waits i ws x)) t (told_of (suc n) ms i) all (old i) ∙ sym (told_earlier n ms few i b d)

length_changed_at : (us : List Told) (o : Option ℕ) (f : Told → Told) → length (changed_at o f us) ≡ length us
length_changed_at us None f = refl
length_changed_at us (Some j) f = length_changed us j f

length_changed_by : (us : List Told) (ws : List Wait) → length (changed_by ws us) ≡ length us
length_changed_by us [] = refl
length_changed_by us (w ∷ ws) = length_changed (changed_by ws us) w.number (told_wait w) ∙ length_changed_by us ws

pub length_earlier : (us : List Told) (ws : List Wait) (o : Option ℕ) (f : Told → Told) → length (changed_at o f (changed_by ws us)) ≡ length us
length_earlier us ws o f = length_changed_at (changed_by ws us) o f ∙ length_changed_by us ws

-- at most one wait begins with an entry
reverse_one : (o : Option Wait) (ws : List Wait) → reverse ws ++ wait_list o ≡ reverse (wait_list o ++ ws)
reverse_one None ws = append-nil (reverse ws)
reverse_one (Some w) ws = sym (reverse-append (w ∷ []) ws)

pub waits_earlier : (n : ℕ) (b : Doer) (d : Deed) (ms : List Mark) (o : Option Wait) → wait_list o ≡ wait_at n b d ms
    → reverse (waits_in (suc n) ms) ++ wait_list o ≡ reverse (waits_in n (record { by = b; deed = d } ∷ ms))
waits_earlier n b d ms o is = reverse_one o (waits_in (suc n) ms) ∙ ap (λ ws. reverse (ws ++ waits_in (suc n) ms)) is

pub on_done : {A E : Type 0} (x : Result A E) {P Q : Type 0} → OnOk x P → (P → Q) → OnOk x Q
on_done (Ok a) is also = also is
on_done (Err e) is also = is

-- ---- nothing is told yet, and all is told

get_replicate : {X : Type 0} (n i : ℕ) (x t : X) → slice_get (replicate n x) i ≡ Some t → t ≡ x
get_replicate zero i x t at = absurd (true≢false (sym (ap is_some at)))
get_replicate (suc n) zero x t at = sym (ap (λ o. unwrap_or o x) at)
get_replicate (suc n) (suc i) x t at = get_replicate n i x t at

length_replicate : {X : Type 0} (n : ℕ) (x : X) → length (replicate n x) ≡ n
length_replicate zero x = refl
length_replicate (suc n) x = ap suc (length_replicate n x)

pub told_yet : (count n : ℕ) (ms : List Mark) (x : Telling) → ms ≡ [] → x.told.items ≡ replicate count (told_of 0 [] 0) → x.waits.items ≡ [] → ((s : ℕ) → get nat_eq x.next s ≡ None)
    → IsTelling count n ms x
told_yet count n ms x none table waits next = subst (λ (l : List Mark). IsTelling count n l x) (sym none) (record {
  told = λ i t at. get_replicate count i (told_of 0 [] 0) t (ap (λ ts. slice_get ts i) (sym table) ∙ at);
  len = ap (λ (ts : List Told). length ts) table ∙ length_replicate count (told_of 0 [] 0);
  waits = waits;
  next = next;
})

pub told_one_more : (count at : ℕ) (marks : List Mark) (m : Mark) (old new : Telling) → 0 < at → at ≤ length marks → length marks < 2 ^ 63
    → IsTelling count at (drop at marks) old
    → ((k : ℕ) (ms : List Mark) → length ms < 2 ^ 63 → IsTelling k (suc (at - 1)) ms old → IsTelling k (at - 1) (get_or marks (at - 1) m ∷ ms) new)
    → IsTelling count (at - 1) (drop (at - 1) marks) new
told_one_more count at marks m old new some within few told step =
    let again : suc (at - 1) ≡ at = omega (arith, some) in
    let short : length (drop at marks) < 2 ^ 63 = omega (arith, few, length-drop at marks) in
    let all = drop-cons marks (at - 1) m (omega (arith, some, within)) in
    subst (λ (l : List Mark). IsTelling count (at - 1) l new) (sym (all ∙ (λ i. get_or marks (at - 1) m ∷ drop (again i) marks)))
    (step count (drop at marks) short (subst (λ (k : ℕ). IsTelling count k (drop at marks) old) (sym again) told))

some_there : {X : Type 0} (xs : List X) (i : ℕ) → i < length xs → (x : X) × (slice_get xs i ≡ Some x)
some_there [] i less = absurd (omega (arith, less))
some_there (x ∷ xs) zero less = (x, refl)
some_there (x ∷ xs) (suc i) less = some_there xs i (omega (arith, less))

pub told_all : (count : ℕ) (ms : List Mark) (x : Telling) → IsTelling count 0 ms x → (i : ℕ) → i < count → slice_get x.told.items i ≡ Some (told_of 0 ms i)
told_all count ms x told i less =
    let there = some_there x.told.items i (omega (arith, less, told.len)) in
    there.1 ∙ ap Some (told.told i there.0 there.1)

pub drop_all : {X : Type 0} (xs : List X) → drop (length xs) xs ≡ []
drop_all [] = refl
drop_all (x ∷ xs) = drop_all xs
