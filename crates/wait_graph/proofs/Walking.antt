-- The walk from one that waits: what it lists, and what it tells where it does not come back.
use Rattle.std.proofs.Common.{◌≡◌, ℕ, zero, suc, ◌+◌, ◌*◌, ◌<◌, ◌≤◌, nat_eq, Bool, true, false, not, ◌&&◌, List, [], ◌∷◌, ◌++◌, length, Some, None, inl, inr, refl, sym, ap, subst, ◌∙◌, is_some, cond, add-one, arith}
use Rattle.std.specs.Prelude.{slice_get, slice_index_or, IsTrue}
use Rattle.std.proofs.lemmas.Bool.{and_parts, eqb-true, false≢true, cases_eq, cases_lt, or_cases, or_left, or_right}
use Rattle.std.proofs.lemmas.List.{get_or-set_other}
use Rattle.std.proofs.lemmas.List.Sums.{count_by-le-length, sum_by-set}
use Rattle.std.proofs.Math.Nat.{mul-le-mul_right, suc-mul}
use Rattle.std.proofs.lemmas.Option.{none-some, same_Some, slice_get_within}
use Rattle.std.proofs.Math.ListN.{set}
use Rattle.txn_tree.proofs.Exports.{get_front}
use Rattle.txn_tree.specs.States.{States}
use Rattle.wait_cycles.specs.Cycles.{Pairs, IsCycle, IsLastOn, WaitInTurn, is_member, waits_in}
use Rattle.wait_cycles.specs.Waiting.{AreOnce, StandsAt, Waiting, wait_in, wait_of}
use Rattle.wait_cycles.specs.declared.waits.Wait.{Wait}
use Rattle.wait_cycles.proofs.Exports.{begun_there, pair_of, waits_by_pair, found_of, place_of}
use Rattle.wait_graph.specs.Edges.{AreAlike, Keeps, edges_among, edges_of, edges_from, waits_for_in}
use Rattle.wait_graph.specs.Walks.{AreGoneOn, AreListed, HasMoreOf, IsLastThrough, IsLonger, IsOnNoCycle, IsWayOf, unmarked}
use Rattle.wait_graph.proofs.Alike.{joined, with_tells}

-- ---- marks

pub none_pushed : (marks : List Bool) → ((k : ℕ) → slice_index_or marks k false ≡ false) → (k : ℕ) → slice_index_or (marks ++ false ∷ []) k false ≡ false
none_pushed [] none zero = refl
none_pushed [] none (suc k) = refl
none_pushed (m ∷ marks) none zero = none zero
none_pushed (m ∷ marks) none (suc k) = none_pushed marks (λ j. none (suc j)) k

-- where one more is marked there is room for the edges of one wait less
pub one_marked : (marks : List Bool) (place count : ℕ) → place < length marks → slice_index_or marks place false ≡ false
    → unmarked marks * count ≡ unmarked (set marks place true) * count + count
one_marked marks place count within not_yet =
    let one : Bool → ℕ = λ m. cond (not m) 1 0 in
    let counted = sum_by-set one marks place true false within in
    let here = ap one not_yet in
    let less : unmarked marks ≡ unmarked (set marks place true) + 1 = omega (arith, counted, here) in
    ap (λ n. n * count) less ∙ ap (λ n. n * count) (add-one (unmarked (set marks place true))) ∙ suc-mul (unmarked (set marks place true)) count

-- at first none is
pub none_marked : (marks : List Bool) (count : ℕ) → length marks ≡ count → unmarked marks * count ≤ count * count
none_marked marks count long = mul-le-mul_right count (omega (arith, long, count_by-le-length not marks))

-- ---- edges that stay where they stand

pub longer_pushed : (old new : Pairs) (p : ℕ × ℕ) → IsLonger old new → IsLonger old (new ++ p ∷ [])
longer_pushed old new p longer i q at = get_front new (p ∷ []) i q (longer i q at)

longer_waits : (old new : Pairs) → IsLonger old new → (a b : ℕ) → waits_in old a b ≡ true → waits_in new a b ≡ true
longer_waits old new longer a b e =
    let f = pair_of old a b e in
    ap (λ x. waits_in new x b) (sym f.3) ∙ ap (λ y. waits_in new f.1.0 y) (sym f.4) ∙ waits_by_pair new f.0 f.1 (longer f.0 f.1 f.2)

pub still_listed : (all old new : Pairs) → IsLonger old new → (a : ℕ) → AreListed all old a → AreListed all new a
still_listed all old new longer a listed b e = longer_waits old new longer a b (listed b e)

-- ---- the edges of one that waits

module _ (tree : States) (keeps : Keeps) where
  -- a pair is among those of a wait at a place
  in_rows : (ws others : List Wait) (a b : ℕ) → waits_in (edges_of tree keeps ws others) a b ≡ true
      → (i : ℕ) × (w : Wait) × (slice_get ws i ≡ Some w) × (waits_in (edges_from tree keeps others w) a b ≡ true)
  in_rows [] others a b e = absurd (false≢true e)
  in_rows (x ∷ ws) others a b e =
      elim (or_cases _ _ (sym (joined (edges_from tree keeps others x) (edges_of tree keeps ws others) a b) ∙ e)) [
        | inl here ↦ (0, x, refl, here)
        | inr later ↦ let r = in_rows ws others a b later in (suc r.0, r.1, r.2, r.3)
      ]

  -- each pair of a wait at a place is one of all
  row_among : (ws others : List Wait) (i : ℕ) (w : Wait) → slice_get ws i ≡ Some w → (a b : ℕ) → waits_in (edges_from tree keeps others w) a b ≡ true
      → waits_in (edges_of tree keeps ws others) a b ≡ true
  row_among [] others i w at a b e = absurd (none-some w at)
  row_among (x ∷ ws) others zero w at a b e =
      joined (edges_from tree keeps others x) (edges_of tree keeps ws others) a b
      ∙ or_left (waits_in (edges_from tree keeps others x) a b) (waits_in (edges_of tree keeps ws others) a b)
      (subst (λ (v : Wait). waits_in (edges_from tree keeps others v) a b ≡ true) (sym (same_Some x w at)) e)
  row_among (x ∷ ws) others (suc i) w at a b e =
      joined (edges_from tree keeps others x) (edges_of tree keeps ws others) a b
      ∙ or_right (waits_in (edges_from tree keeps others x) a b) (waits_in (edges_of tree keeps ws others) a b) (row_among ws others i w at a b e)

  -- and that wait is the first's
  row_of : (w : Wait) (others : List Wait) (a b : ℕ) → waits_in (edges_from tree keeps others w) a b ≡ true → w.txn ≡ a
  row_of w others a b e =
      eqb-true w.txn a (and_parts (nat_eq w.txn a) (is_some (wait_in others b) && waits_for_in tree keeps w b) (sym (with_tells tree keeps w others a b) ∙ e)).0

  module _ (waits : Waiting) (once : AreOnce waits) where
    -- one that does not wait is no first
    pub nobodys : (listed : Pairs) (t : ℕ) → wait_of waits t ≡ None → AreListed (edges_among tree keeps waits.waits) listed t
    nobodys listed t none b e =
        let r = in_rows waits.waits waits.waits t b e in
        absurd (none-some r.1 (sym none ∙ found_of waits.waits once.apart t r.0 r.1 r.2 (row_of r.1 waits.waits t b r.3)))

    -- once the edges of its wait were added they are listed
    pub added : (old new : Pairs) (i : ℕ) (w : Wait) → slice_get waits.waits i ≡ Some w
        → AreAlike new (old ++ edges_from tree keeps waits.waits w) → AreListed (edges_among tree keeps waits.waits) new w.txn
    added old new i w at alike b e =
        let r = in_rows waits.waits waits.waits w.txn b e in
        let place : r.0 ≡ i = once.apart r.0 i r.1 w r.2 at (row_of r.1 waits.waits w.txn b r.3) in
        let same : r.1 ≡ w = same_Some r.1 w (sym r.2 ∙ ap (slice_get waits.waits) place ∙ at) in
        alike w.txn b
        ∙ joined old (edges_from tree keeps waits.waits w) w.txn b
        ∙ or_right (waits_in old w.txn b) (waits_in (edges_from tree keeps waits.waits w) w.txn b)
        (subst (λ (v : Wait). waits_in (edges_from tree keeps waits.waits v) w.txn b ≡ true) same r.3)

    -- and nothing else came to them
    pub more_of : (old new : Pairs) (i : ℕ) (w : Wait) → slice_get waits.waits i ≡ Some w
        → AreAlike new (old ++ edges_from tree keeps waits.waits w) → HasMoreOf (edges_among tree keeps waits.waits) old new
    more_of old new i w at alike a b e =
        elim (or_cases _ _ (sym (joined old (edges_from tree keeps waits.waits w) a b) ∙ sym (alike a b) ∙ e)) [
          | inl before ↦ inl before
          | inr now ↦ inr (row_among waits.waits waits.waits i w at a b now)
        ]

    -- the wait at its place is its own
    own : (t place : ℕ) (w : Wait) → StandsAt waits t place → slice_get waits.waits place ≡ Some w → w.txn ≡ t
    own t place w stands at =
        let there = place_of waits.waits t stands.0 stands.1 in
        ap (λ (v : Wait). v.txn) (sym (same_Some stands.0 w (sym stands.2 ∙ at))) ∙ there.2

    pub marked_before : (marks : List Bool) (listed : Pairs) (t place : ℕ) → StandsAt waits t place → IsTrue (slice_index_or marks place false)
        → AreGoneOn (edges_among tree keeps waits.waits) waits.waits marks listed → AreListed (edges_among tree keeps waits.waits) listed t
    marked_before marks listed t place stands marked gone =
        subst (λ (n : ℕ). AreListed (edges_among tree keeps waits.waits) listed n) (own t place stands.0 stands stands.2) (gone place stands.0 marked stands.2)

    -- one more place is marked
    pub marked_now : (marks : List Bool) (old new : Pairs) (t place : ℕ) (w : Wait) → StandsAt waits t place → slice_get waits.waits place ≡ Some w
        → AreAlike new (old ++ edges_from tree keeps waits.waits w) → IsLonger old new
        → AreGoneOn (edges_among tree keeps waits.waits) waits.waits marks old
        → AreGoneOn (edges_among tree keeps waits.waits) waits.waits (set marks place true) new × AreListed (edges_among tree keeps waits.waits) new t
    marked_now marks old new t place w stands at alike longer gone = (
      λ p v marked there.
          elim (cases_eq place p) [
            | inl here ↦
                let same : w ≡ v = same_Some w v (sym at ∙ ap (slice_get waits.waits) here ∙ there) in
                subst (λ (u : Wait). AreListed (edges_among tree keeps waits.waits) new u.txn) same listed
            | inr other ↦
                let before : slice_index_or marks p false ≡ true = sym (get_or-set_other marks place p true false (λ e. other (sym e))) ∙ marked in
                still_listed (edges_among tree keeps waits.waits) old new longer v.txn (gone p v before there)
          ],
      subst (λ (n : ℕ). AreListed (edges_among tree keeps waits.waits) new n) (own t place w stands at) listed,
    )
      where
        listed : AreListed (edges_among tree keeps waits.waits) new w.txn
        listed = added old new place w at alike

-- ---- the walk

-- so far: the edges of the start are listed, and those of each that was reached by the edges before this place; whether the start was
-- is known; and none but edges are listed
pub record IsWalked (all : Pairs) (waits : List Wait) (marks : List Bool) (listed : Pairs) (start place : ℕ) (back : Bool) : Type 0 where
  pub gone_on : AreGoneOn all waits marks listed
  pub first : AreListed all listed start
  pub reached : (i : ℕ) (p : ℕ × ℕ) → i < place → slice_get listed i ≡ Some p → (p.1 ≡ start → back ≡ true) × AreListed all listed p.1
  pub sound : (a b : ℕ) → waits_in listed a b ≡ true → waits_in all a b ≡ true

module _ (all : Pairs) (waits : List Wait) (start : ℕ) where
  pub walk_begins : (marks : List Bool) (listed : Pairs) → AreGoneOn all waits marks listed → AreListed all listed start → HasMoreOf all [] listed
      → IsWalked all waits marks listed start 0 false
  walk_begins marks listed gone first more = record {
    gone_on = gone;
    first = first;
    reached = λ i p less at. absurd (omega (arith, less));
    sound = λ a b e. elim (more a b e) [ inl none ↦ absurd (false≢true none) | inr one ↦ one ];
  }

  pub walk_goes_on : (marks marks2 : List Bool) (old new : Pairs) (place : ℕ) (back back2 : Bool) (p : ℕ × ℕ) → IsWalked all waits marks old start place back
      → slice_get old place ≡ Some p → (back ≡ true → back2 ≡ true) → (p.1 ≡ start → back2 ≡ true) → IsLonger old new → HasMoreOf all old new
      → AreGoneOn all waits marks2 new × AreListed all new p.1 → IsWalked all waits marks2 new start (place + 1) back2
  walk_goes_on marks marks2 old new place back back2 p so_far at still here_back longer more now = record {
    gone_on = now.0;
    first = still_listed all old new longer start so_far.first;
    reached = λ i q less there.
        elim (cases_lt i place) [
          | inl below ↦ before i q below there
          | inr past ↦
              let here : i ≡ place = omega (arith, past, less) in
              let same : p ≡ q = same_Some p q (sym (longer place p at) ∙ ap (slice_get new) (sym here) ∙ there) in
              subst (λ (r : ℕ × ℕ). (r.1 ≡ start → back2 ≡ true) × AreListed all new r.1) same (here_back, now.1)
        ];
    sound = λ a b e. elim (more a b e) [ inl earlier ↦ so_far.sound a b earlier | inr one ↦ one ];
  }
    where
      within : place < length old
      within = slice_get_within old place p at

      before : (i : ℕ) (q : ℕ × ℕ) → i < place → slice_get new i ≡ Some q → (q.1 ≡ start → back2 ≡ true) × AreListed all new q.1
      before i q below there =
          let r = read old i (omega (arith, below, within)) in
          let same : r.0 ≡ q = same_Some r.0 q (sym (longer i r.0 r.1) ∙ there) in
          let known = so_far.reached i r.0 below r.1 in
          subst (λ (s : ℕ × ℕ). (s.1 ≡ start → back2 ≡ true) × AreListed all new s.1) same
          (λ is. still (known.0 is), still_listed all old new longer r.0.1 known.1)
        where
          read : (xs : Pairs) (k : ℕ) → k < length xs → (r : ℕ × ℕ) × (slice_get xs k ≡ Some r)
          read [] k less = absurd (omega (arith, less))
          read (x ∷ xs) zero less = (x, refl)
          read (x ∷ xs) (suc k) less = read xs k (omega (arith, less))

  -- it has come to its end
  module _ (marks : List Bool) (listed : Pairs) (place : ℕ) (back : Bool) (walked : IsWalked all waits marks listed start place back) (end : length listed ≤ place) where
    next : (a b : ℕ) → AreListed all listed a → waits_in all a b ≡ true → (b ≡ start → back ≡ true) × AreListed all listed b
    next a b from e =
        let f = pair_of listed a b (from b e) in
        let within = slice_get_within listed f.0 f.1 f.2 in
        subst (λ (n : ℕ). (n ≡ start → back ≡ true) × AreListed all listed n) f.4 (walked.reached f.0 f.1 (omega (arith, within, end)) f.2)

    -- where it did not come back, no cycle goes through the start
    never : back ≡ false → (a : ℕ) (xs : List ℕ) → AreListed all listed a → WaitInTurn all a xs start → ⊥
    never none a [] from turn = false≢true (sym none ∙ (next a start from turn).0 refl)
    never none a (x ∷ xs) from turn = never none x xs (next a x from turn.0).1 turn.1

    pub never_back : back ≡ false → IsOnNoCycle all start
    never_back none xs cycle member = let ys = begun_there all start xs member cycle in never none start ys.0 walked.first ys.1.1

    -- whoever stands on a cycle behind the start was reached
    along : (a : ℕ) (xs : List ℕ) (b : ℕ) → AreListed all listed a → WaitInTurn all a xs b → AreListed all listed b
    along a [] b from turn = (next a b from turn).1
    along a (x ∷ xs) b from turn = along x xs b (next a x from turn.0).1 turn.1

    from_start : (a : ℕ) (xs : List ℕ) (b : ℕ) → nat_eq start a ≡ true → WaitInTurn all a xs b → AreListed all listed b
    from_start a xs b here turn = along a xs b (subst (λ (n : ℕ). AreListed all listed n) (eqb-true start a here) walked.first) turn

    onward : (a : ℕ) (xs : List ℕ) (b : ℕ) → is_member start (a ∷ xs) ≡ true → WaitInTurn all a xs b → AreListed all listed b
    onward a [] b member turn =
        elim (or_cases (nat_eq start a) false member) [ inl here ↦ from_start a [] b here turn | inr later ↦ absurd (false≢true later) ]
    onward a (x ∷ xs) b member turn =
        elim (or_cases (nat_eq start a) (is_member start (x ∷ xs)) member) [
          | inl here ↦ from_start a (x ∷ xs) b here turn
          | inr later ↦ onward x xs b later turn.1
        ]

    turn_listed : (a : ℕ) (xs : List ℕ) (b : ℕ) → AreListed all listed a → WaitInTurn all a xs b → WaitInTurn listed a xs b
    turn_listed a [] b from turn = from b turn
    turn_listed a (x ∷ xs) b from turn = (from x turn.0, turn_listed x xs b (next a x from turn.0).1 turn.1)

    turn_of_all : (a : ℕ) (xs : List ℕ) (b : ℕ) → WaitInTurn listed a xs b → WaitInTurn all a xs b
    turn_of_all a [] b turn = walked.sound a b turn
    turn_of_all a (x ∷ xs) b turn = (walked.sound a x turn.0, turn_of_all x xs b turn.1)

    whole : (ys : List ℕ) → IsCycle all ys → is_member start ys ≡ true → IsCycle listed ys
    whole [] cycle member = cycle
    whole (a ∷ xs) cycle member = (cycle.0, turn_listed a xs a (onward a xs a member cycle.1) cycle.1)

    sound_cycle : (ys : List ℕ) → IsCycle listed ys → IsCycle all ys
    sound_cycle [] cycle = cycle
    sound_cycle (a ∷ xs) cycle = (cycle.0, turn_of_all a xs a cycle.1)

    pub way : IsWayOf all listed start
    way = record { whole = whole; sound = sound_cycle }

-- the last on any listed cycle is the last on any cycle through the start
pub last_on_way : (all listed : Pairs) (start a : ℕ) → IsWayOf all listed start → IsLastOn listed a → IsLastThrough all start a
last_on_way all listed start a way last = record {
  through = (last.through.0, way.sound last.through.0 last.through.1, last.through.2);
  last = λ ys cycle member c there. last.last ys (way.whole ys cycle member) c there;
}
