-- A transaction ends, or goes back to a savepoint.
use Rattle.std.proofs.Common.{◌≡◌, ◌-◌, ◌<◌, ◌≤◌, ℕ, List, [], ◌∷◌, ◌++◌, length, map, take, drop, get_or, All, Option, refl, sym, ap, ◌∙◌, arith}
use Rattle.std.proofs.lemmas.List.{drop_all, map-append}
use Rattle.sqlite_trees.specs.Tree.{with_tree}
use Rattle.sqlite_trees.specs.View.{View, newest, snapshot, IsRolledBack, GoesBack, Marks, Commits, OnlyCommits, SetsTree}
use Rattle.sqlite_trees.specs.Objects.{catalog_tree, version_tree, version_rows}
use Rattle.sqlite_trees.specs.Listing.{objects_from}
use Rattle.sqlite_trees.proofs.StoreLemmas.{newest_mark, version_twice}
use Rattle.row_store.specs.declared.store.Cursor.{Cursor}
use Rattle.row_store.specs.declared.log.Undo.{Undo}
use Rattle.row_store.specs.declared.log.Undo.TheVariants.{Version}
use Rattle.row_store.specs.Path.{State, undone, IsPath}
use Rattle.row_store.specs.Shown.{path_now}
use Rattle.row_store.specs.RowView.{shown, rows_in, view_of}
use Rattle.row_store.proofs.Views.{cut, marks_cut, marks_led}
use Rattle.row_store.proofs.Paths.{undone-push, path_push}

module _ (s : State) (log : List Undo) (marks : List ℕ) (cursors : List (Option Cursor)) (t : State) (more : List Undo) (others : List ℕ) (moved : List (Option Cursor)) where
  pub rolled_back : t ≡ undone log s → more ≡ [] → others ≡ [] → IsRolledBack (view_of s log marks cursors) (view_of t more others moved)
  rolled_back state none unmarked =
      let first : undone more t ≡ undone log s = rw none state in
      record {
        kept = λ _. record {
          shape = ap (λ (x : State). (shown x).shape) state;
          reals = ap (λ (x : State). (shown x).reals) state;
          committed_shape = ap (λ (x : State). (shown x).shape) first;
          committed_reals = ap (λ (x : State). (shown x).reals) first;
          numbered = refl;
          was_open = λ h. refl;
          committed = λ _. ap (λ (x : State). (shown x).trees) first;
          marks = λ _. ap (map (λ n. shown (undone (drop n more) t))) unmarked;
        };
        shape = λ h. ap (λ (x : State). (shown x).shape) state ∙ sym h;
        reals = λ h. ap (λ (x : State). (shown x).reals) state ∙ sym h;
        committed_shape = ap (λ (x : State). (shown x).shape) first;
        committed_reals = ap (λ (x : State). (shown x).reals) first;
        numbered = refl;
        undone = λ _. (ap (λ (x : State). (shown x).trees) state, refl);
      }

  pub went_back : (kept : ℕ) → kept ≡ get_or marks (length marks - 1) 0 → 0 < length marks → kept ≤ length log → All (λ n. n ≤ kept) marks
      → more ≡ take kept log → t ≡ undone (drop kept log) s → others ≡ marks → GoesBack (view_of s log marks cursors) (view_of t more others moved)
  went_back kept is some within low cut_is state same =
      let at = λ (n : ℕ). shown (undone (drop n log) s) in
      let old = view_of s log marks cursors in
      let back : shown t ≡ newest old = ap shown state ∙ ap at is ∙ sym (newest_mark at marks (snapshot old) some) in
      let first : undone more t ≡ undone log s = rw (cut_is, state) (cut log s 0 kept (omega arith) within) in
      let saved : map (λ n. shown (undone (drop n more) t)) others ≡ map at marks = rw (cut_is, state, same) (marks_cut log s kept within marks low) in
      record {
        was_open = refl;
        is = λ i. record (view_of t more others moved) {
          trees = (back i).trees;
          shape = (back i).shape;
          reals = (back i).reals;
          committed = (shown (first i)).trees;
          committed_shape = (shown (first i)).shape;
          committed_reals = (shown (first i)).reals;
          marks = saved i;
        };
      }

  pub commits : t ≡ s → more ≡ [] → others ≡ [] → Commits (view_of s log marks cursors) (view_of t more others moved)
  commits state none unmarked =
      let first : undone more t ≡ s = rw none state in
      record {
        sound = refl;
        is = λ i. record (view_of t more others moved) {
          trees = (shown (state i)).trees;
          shape = (shown (state i)).shape;
          reals = (shown (state i)).reals;
          committed = (shown (first i)).trees;
          committed_shape = (shown (first i)).shape;
          committed_reals = (shown (first i)).reals;
          marks = map (λ n. shown (undone (drop n more) t)) (unmarked i);
        };
      }

pub only_commits : (old new : View) → Commits old new → OnlyCommits old new
only_commits old new h = λ i. record (h.is i) { committed = new.committed }

pub marked : (s : State) (log : List Undo) (marks others : List ℕ) (cursors : List (Option Cursor)) → others ≡ marks ++ length log ∷ [] → Marks (view_of s log marks cursors) (view_of s log others cursors)
marked s log marks others cursors is =
    let whole : undone (drop (length log) log) s ≡ s = rw (drop_all (length log) log (omega arith)) refl in
    let at = λ (n : ℕ). shown (undone (drop n log) s) in
    let saved : map at others ≡ map at marks ++ snapshot (view_of s log marks cursors) ∷ [] = rw (is, map-append) (λ i. map at marks ++ shown (whole i) ∷ []) in
    record { sound = refl; is = λ i. record (view_of s log marks cursors) { marks = saved i } }

-- the user version is set, and what undoes it is noted
pub numbers : (s : State) (log : List Undo) (marks : List ℕ) (cursors : List (Option Cursor)) (version : ℕ) (more : List Undo) → All (λ n. n ≤ length log) marks → more ≡ log ++ Version s.version ∷ []
    → SetsTree (view_of s log marks cursors) (view_of (record s { version = version }) more marks cursors) version_tree (λ _. version_rows version)
numbers s log marks cursors version more within is =
    let t : State = record s { version = version } in
    let first : undone more t ≡ undone log s = rw (is, undone-push log (Version s.version) t) refl in
    let saved : map (λ n. shown (undone (drop n more) t)) marks ≡ map (λ n. shown (undone (drop n log) s)) marks = rw is (marks_led log (Version s.version ∷ []) s t refl marks within) in
    let trees = version_twice (with_tree (rows_in s.rows) catalog_tree (objects_from 0 s.headings)) s.version version in
    record {
      sound = refl;
      is = λ i. record (view_of s log marks cursors) {
        trees = trees i;
        committed = (shown (first i)).trees;
        committed_shape = (shown (first i)).shape;
        committed_reals = (shown (first i)).reals;
        marks = saved i;
      };
    }

pub number_path : (room : List ℕ) (log : List Undo) (s : State) (version : ℕ) → IsPath room log s → IsPath room (log ++ Version s.version ∷ []) (record s { version = version })
number_path room log s version h =
    let sound = path_now room log s h in
    path_push room log (Version s.version) s (record s { version = version }) refl tt (record { count = sound.count; shaped = sound.shaped; short = sound.short }) h
