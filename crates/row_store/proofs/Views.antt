-- What a write shows.
use Rattle.std.proofs.Common.{◌≡◌, ℕ, ◌^◌, ◌<◌, ◌≤◌, cond, eqb, List, [], ◌∷◌, ◌++◌, map, take, drop, length, get_or, set, All, refl, sym, ap, ◌∙◌, arith, true, false, inl, inr, eq-eqb, ne_eqb, take-append-drop, length-take-le, append_assoc, append-nil}
use Rattle.std.proofs.lemmas.Bool.{cases_eq}
use Rattle.std.proofs.lemmas.List.{drop-append-le, take_at, drop_at}
use Rattle.std.proofs.lemmas.List.Elements.{All-head, All-tail}
use mathlib.Core.Path.{fun_ext}
use Rattle.sqlite_value.specs.Order.{Row}
use Rattle.sqlite_trees.specs.declared.store.Shape.TheVariants.{Table}
use Rattle.sqlite_trees.specs.Tree.{Trees, with_tree}
use Rattle.sqlite_trees.specs.Objects.{catalog_tree, set_at}
use Rattle.sqlite_trees.specs.Listing.{Heading, no_heading, shape_in, reals_in, reals_unless_absent, objects_from}
use Rattle.sqlite_trees.proofs.StoreLemmas.{named, under_version, versioned_edit, get_or-set_cases}
use Rattle.row_store.specs.declared.log.Undo.{Undo}
use Rattle.row_store.specs.declared.store.RowStore.{RowStore}
use Rattle.row_store.specs.Path.{State, undone}
use Rattle.row_store.specs.RowView.{rows_in, shown, now, row_view, Leads}
use Rattle.row_store.proofs.Paths.{undone-append}

pub set_same : {X : Type 0} (f : ℕ → X) (t : ℕ) → set_at f t (f t) ≡ f
set_same f t = fun_ext (λ k. elim (cases_eq k t) [ inl same ↦ rw (eq-eqb k t same, same) | inr other ↦ rw (ne_eqb k t other) ])

pub set_twice : (db : Trees) (t : ℕ) (first second : List Row) → with_tree (with_tree db t first) t second ≡ with_tree db t second
set_twice db t first second = fun_ext (λ k. elim (cases_eq k t) [ inl same ↦ rw (eq-eqb k t same) | inr other ↦ rw (ne_eqb k t other) ])

-- what is set at a number that a call can name goes under what is set at the list of objects
turned : {X : Type 0} (f : ℕ → X) (t : ℕ) (x y : X) → t < 2 ^ 32 → set_at (set_at f t x) catalog_tree y ≡ set_at (set_at f catalog_tree y) t x
turned f t x y low = fun_ext (λ k. elim (cases_eq k t) [ inl same ↦ rw (same, named t low, eq-eqb t t refl) | inr other ↦ rw (ne_eqb k t other) ])

rows_set : (rows : List (List Row)) (t : ℕ) (es : List Row) → t < length rows → rows_in (set rows t es) ≡ with_tree (rows_in rows) t es
rows_set rows t es within = fun_ext (λ k. get_or-set_cases rows t es [] within k)

-- one tree's rows are edited
pub edited_shown : (s : State) (t : ℕ) (edit : List Row → List Row) → t < 2 ^ 32 → t < length s.rows
    → shown (record s { rows = set s.rows t (edit (rows_in s.rows t)) }) ≡ record (shown s) { trees = with_tree (shown s).trees t (edit ((shown s).trees t)) }
edited_shown s t edit low within =
    let old = with_tree (rows_in s.rows) catalog_tree (objects_from 0 s.headings) in
    let new = with_tree (rows_in (set s.rows t (edit (rows_in s.rows t)))) catalog_tree (objects_from 0 s.headings) in
    let is : new ≡ with_tree old t (edit (old t)) = rw (rows_set s.rows t (edit (rows_in s.rows t)) within, named t low) (turned (rows_in s.rows) t _ _ low) in
    let all = versioned_edit old new t s.version edit (omega arith) is in
    λ i. record (shown s) { trees = all i }

heading_in : (hs : List Heading) (t : ℕ) (h : Heading) → t < length hs → (k : ℕ) → get_or (set hs t h) k no_heading ≡ cond (eqb k t) h (get_or hs k no_heading)
heading_in hs t h within k = get_or-set_cases hs t h no_heading within k

shapes_set : (hs : List Heading) (t : ℕ) (h : Heading) → t < length hs → shape_in (set hs t h) ≡ set_at (shape_in hs) t h.0
shapes_set hs t h within = fun_ext (λ k. ap (λ (x : Heading). x.0) (heading_in hs t h within k)
    ∙ (elim (eqb k t) as (λ b. (cond b h (get_or hs k no_heading)).0 ≡ cond b h.0 (shape_in hs k)) [ true ↦ refl | false ↦ refl ]))

reals_set : (hs : List Heading) (t : ℕ) (h : Heading) → t < length hs → reals_in (set hs t h) ≡ set_at (reals_in hs) t (reals_unless_absent h.0 h.1)
reals_set hs t h within = fun_ext (λ k. ap (λ (x : Heading). reals_unless_absent x.0 x.1) (heading_in hs t h within k)
    ∙ (elim (eqb k t) as (λ b. reals_unless_absent (cond b h (get_or hs k no_heading)).0 (cond b h (get_or hs k no_heading)).1 ≡ cond b (reals_unless_absent h.0 h.1) (reals_in hs k)) [ true ↦ refl | false ↦ refl ]))

-- one tree is listed otherwise
pub listed_shown : (s : State) (t : ℕ) (h : Heading) (edit : List Row → List Row) → t < 2 ^ 32 → t < length s.headings → objects_from 0 (set s.headings t h) ≡ edit (objects_from 0 s.headings)
    → shown (record s { headings = set s.headings t h }) ≡ record {
      trees = with_tree (shown s).trees catalog_tree (edit ((shown s).trees catalog_tree));
      shape = set_at (shown s).shape t h.0;
      reals = set_at (shown s).reals t (reals_unless_absent h.0 h.1);
    }
listed_shown s t h edit low within lists =
    let old = with_tree (rows_in s.rows) catalog_tree (objects_from 0 s.headings) in
    let new = with_tree (rows_in s.rows) catalog_tree (objects_from 0 (set s.headings t h)) in
    let is : new ≡ with_tree old catalog_tree (edit (old catalog_tree)) = rw lists (sym (set_twice (rows_in s.rows) catalog_tree _ _)) in
    let trees = versioned_edit old new catalog_tree s.version edit (omega arith) is in
    let shape : (shown (record s { headings = set s.headings t h })).shape ≡ set_at (shown s).shape t h.0 =
    rw (shapes_set s.headings t h within, turned (shape_in s.headings) t h.0 Table low) (under_version (set_at (shape_in s.headings) catalog_tree Table) t h.0 Table (omega arith)) in
    let bits = reals_unless_absent h.0 h.1 in
    let reals : (shown (record s { headings = set s.headings t h })).reals ≡ set_at (shown s).reals t bits =
    rw (reals_set s.headings t h within, turned (reals_in s.headings) t bits 0 low) (under_version (set_at (reals_in s.headings) catalog_tree 0) t bits 0 (omega arith)) in
    λ i. record { trees = trees i; shape = shape i; reals = reals i }

pub marks_led : (log more : List Undo) (old new : State) → undone more new ≡ old → (marks : List ℕ) → All (λ n. n ≤ length log) marks
    → map (λ n. shown (undone (drop n (log ++ more)) new)) marks ≡ map (λ n. shown (undone (drop n log) old)) marks
marks_led log more old new back [] within = refl
marks_led log more old new back (n ∷ marks) within =
    let low : n ≤ length log = All-head (λ n. n ≤ length log) n marks within in
    let rest : All (λ n. n ≤ length log) marks = All-tail (λ n. n ≤ length log) n marks within in
    let one : undone (drop n (log ++ more)) new ≡ undone (drop n log) old =
    rw (drop-append-le n log more low, undone-append (drop n log) more new) (ap (undone (drop n log)) back) in
    let others = marks_led log more old new back marks rest in
    λ i. shown (one i) ∷ others i

-- the last commit and the savepoints stand
pub wrote : (old new : RowStore) (s : State) → Leads old new s
    → row_view new ≡ record (row_view old) { trees = (shown s).trees; shape = (shown s).shape; reals = (shown s).reals; cursors = (row_view new).cursors }
wrote old new s h =
    let first : undone new.log.items (now new) ≡ undone old.log.items (now old) = rw (h.log, h.state, undone-append old.log.items h.more s) (ap (undone old.log.items) h.back) in
    let saved : (row_view new).marks ≡ (row_view old).marks = rw (h.log, h.marks, h.state) (marks_led old.log.items h.more (now old) s h.back old.marks.items old.within) in
    λ i. record (row_view new) {
      trees = (shown (h.state i)).trees;
      shape = (shown (h.state i)).shape;
      reals = (shown (h.state i)).reals;
      committed = (shown (first i)).trees;
      committed_shape = (shown (first i)).shape;
      committed_reals = (shown (first i)).reals;
      marks = saved i;
    }

-- nothing was written
pub stayed : (old new : RowStore) → Leads old new (now old) → row_view new ≡ record (row_view old) { cursors = (row_view new).cursors }
stayed old new h = wrote old new (now old) h

-- one write after others
pub led_on : (old mid new : RowStore) (s t : State) → Leads old mid s → Leads mid new t → Leads old new t
led_on old mid new s t p q = record {
  state = q.state;
  more = p.more ++ q.more;
  log = rw (q.log, p.log, append_assoc);
  back = undone-append p.more q.more t ∙ ap (undone p.more) (q.back ∙ p.state) ∙ p.back;
  marks = q.marks ∙ p.marks;
}

apart : {X : Type 0} (n k : ℕ) (xs : List X) → n ≤ k → k ≤ length xs → drop n xs ≡ drop n (take k xs) ++ drop k xs
apart n k xs low within =
    let short = length-take-le k xs within in
    ap (drop n) (sym (take-append-drop k xs)) ∙ drop-append-le n (take k xs) (drop k xs) (omega (arith, short))

-- the log is cut, and the states that it led back to stand
pub cut : (log : List Undo) (s : State) (n k : ℕ) → n ≤ k → k ≤ length log → undone (drop n (take k log)) (undone (drop k log) s) ≡ undone (drop n log) s
cut log s n k low within = sym (rw (apart n k log low within) (undone-append (drop n (take k log)) (drop k log) s))

pub marks_cut : (log : List Undo) (s : State) (k : ℕ) → k ≤ length log → (marks : List ℕ) → All (λ n. n ≤ k) marks
    → map (λ n. shown (undone (drop n (take k log)) (undone (drop k log) s))) marks ≡ map (λ n. shown (undone (drop n log) s)) marks
marks_cut log s k within [] low = refl
marks_cut log s k within (n ∷ marks) low =
    let one = cut log s n k (All-head (λ n. n ≤ k) n marks low) within in
    let more = marks_cut log s k within marks (All-tail (λ n. n ≤ k) n marks low) in
    λ i. shown (one i) ∷ more i

-- the writes since are undone
pub led_back : (s mid new : RowStore) (t : State) → Leads s mid t → new.log.items ≡ take (length s.log.items) mid.log.items
    → now new ≡ undone (drop (length s.log.items) mid.log.items) (now mid) → new.marks ≡ mid.marks → Leads s new (now s)
led_back s mid new t h log state marks =
    let kept : take (length s.log.items) mid.log.items ≡ s.log.items = ap (take (length s.log.items)) h.log ∙ take_at s.log.items h.more (length s.log.items) refl in
    let rest : drop (length s.log.items) mid.log.items ≡ h.more = ap (drop (length s.log.items)) h.log ∙ drop_at s.log.items h.more (length s.log.items) refl in
    record {
      state = state ∙ ap (λ l. undone l (now mid)) rest ∙ ap (undone h.more) h.state ∙ h.back;
      more = [];
      log = log ∙ kept ∙ sym (append-nil s.log.items);
      back = refl;
      marks = marks ∙ h.marks;
    }

pub led_now : (s new : RowStore) (t : State) → Leads s new t → Leads s new (now new)
led_now s new t h = record { state = refl; more = h.more; log = h.log; back = ap (undone h.more) h.state ∙ h.back; marks = h.marks }

pub led_none : (s : RowStore) → Leads s s (now s)
led_none s = record { state = refl; more = []; log = sym (append-nil s.log.items); back = refl; marks = refl }
