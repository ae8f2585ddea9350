-- What the changes of a piece make of the table, and those of several pieces.
use Rattle.std.proofs.Common.{◌≡◌, ◌<◌, ◌/◌, inl, inr, true, false, ℕ, ℤ, List, [], ◌∷◌, ◌++◌, length, Option, Some, None, Result, Ok, Err, refl, sym, ap, subst, ◌∙◌, arith}
use Rattle.std.specs.Prelude.{IsTrue}
use Rattle.sqlite.specs.declared.error.Error.{Error}
use Rattle.sqlite.specs.Command.TheVariants.{Insert}
use Rattle.sqlite.specs.Source.TheVariants.{Values}
use Rattle.sqlite.specs.Listing.{understood}
use Rattle.sqlite.specs.Store.{Ghosts}
use Rattle.sqlite.specs.Held.{Held, state}
use Rattle.sqlite.specs.State.{Survives, State, KeepsCommit, IsUnchanged, ExecutesInside}
use Rattle.sqlite.proofs.Callers.{IsPlain, command_of}
use Rattle.txn_names.specs.declared.change.Change.{Change}
use Rattle.durable_top.specs.Numbered.{Numbered, under, overlay_numbered}
use Rattle.sql_store.specs.Asked.{Answers, ChangeGives, have_values, params_all, MakesChange, FailsToChange, MakesEach, EachGives, AnsweredRows, AreLeft, MakesRows, RowsGive, MakesPiece, PieceGives, MakesPieces, ExecutedEach, joined}
use Rattle.sql_store.specs.Calls.{IfInside}
use Rattle.sql_store.specs.Faults.{breaks_rule, IsCaused}
use Rattle.sql_store.specs.Inside.{Steps}
use Rattle.sql_store.specs.Laid.{put}
use Rattle.sql_store.specs.Results.{both_schema}
use Rattle.sql_store.specs.Table.{table_of, IsReady, Makes}
use Rattle.sql_store.proofs.Texts.{insert_4_text, insert_16_text, rows_terms, insert_4_is, insert_16_is, insert_4_plain, insert_16_plain}
use Rattle.sql_store.proofs.Steps.{kept_by, on_ok_then, steps_from}
use Rattle.sql_store.proofs.Answering.{did_so, gave_so, answers_then}
use Rattle.sql_store.proofs.Transactions.{each_more, executed_more}
use Rattle.sql_store.proofs.Causes.{inside_caused}
use Rattle.sql_store.proofs.Composed.{keeps_then, keeps_all}
use Rattle.sql_store.proofs.Deletes.{removes}
use Rattle.sql_store.proofs.Adding.{overlay_first, adds_all}
use Rattle.sql_store.proofs.Ways.{Passes, passes_unchanged, stands, makes_put}

-- the changes were made in a transaction, one after another
pub record Goes (number : ℤ) (cs : List Change) (old new : State) : Type 0 where
  pub was_open : 0 < length cs → IsTrue old.is_open
  pub inside : IsTrue new.in_transaction
  pub kept : KeepsCommit old new
  pub ready : IsReady old.now → IsReady new.now
  pub table : IsReady old.now → table_of new.now ≡ overlay_numbered number cs (table_of old.now)
  pub others : IsReady old.now → new.now.trees 0 ≡ old.now.trees 0

overlay_both : (n : ℤ) (cs ds : List Change) (m : Numbered) → overlay_numbered n ds (overlay_numbered n cs m) ≡ overlay_numbered n (cs ++ ds) m
overlay_both n [] ds m = refl
overlay_both n (c ∷ cs) ds m =
    ap (overlay_numbered n ds) (sym (overlay_first n c cs m)) ∙ overlay_both n cs ds (put m c.key (under n c.value)) ∙ overlay_first n c (cs ++ ds) m

pub goes_none : (number : ℤ) (a : State) → IsTrue a.in_transaction → Goes number [] a a
goes_none number a inside = record { was_open = λ some. absurd (omega (arith, some)); inside = inside; kept = keeps_all a; ready = λ h. h; table = λ _. refl; others = λ _. refl }

goes_one : (number : ℤ) (c : Change) (a b : State) → Makes c.key (under number c.value) a b → Goes number (c ∷ []) a b
goes_one number c a b h = record {
  was_open = λ _. h.was_open;
  inside = h.inside;
  kept = h.kept;
  ready = h.ready;
  table = λ ready. h.table ready ∙ overlay_first number c [] (table_of a.now);
  others = h.others;
}

pub goes_then : (number : ℤ) (cs ds : List Change) (a b c : State) → Goes number cs a b → Goes number ds b c → Goes number (cs ++ ds) a c
goes_then number cs ds a b c p q = record {
  was_open = opened cs p q;
  inside = q.inside;
  kept = keeps_then a b c p.kept q.kept;
  ready = λ ready. q.ready (p.ready ready);
  table = λ ready. q.table (p.ready ready) ∙ ap (overlay_numbered number ds) (p.table ready) ∙ overlay_both number cs ds (table_of a.now);
  others = λ ready. q.others (p.ready ready) ∙ p.others ready;
}
  where
    opened : (cs : List Change) → Goes number cs a b → Goes number ds b c → 0 < length (cs ++ ds) → IsTrue a.is_open
    opened [] p q some = p.kept.was_open (q.was_open some)
    opened (d ∷ cs) p q some = p.was_open (omega arith)

goes_left : (number : ℤ) (old new : State) → Passes old new → Goes number [] old new
goes_left number old new p = record { was_open = λ some. p.was_open; inside = p.inside; kept = p.kept; ready = p.ready; table = p.table; others = p.others }

-- one insert of all rows makes the changes
rows_by : (text : List ℕ) (size : ℕ) → command_of (understood both_schema text) ≡ Insert 1 (Values (rows_terms 0 size) 4) → IsPlain (understood both_schema text) → length (rows_terms 0 size) / 4 ≡ size
    → (number : ℤ) (rows : List Change) (old new : State) (count : ℕ) → length rows ≡ size → have_values rows ≡ true → ExecutesInside 0 text (params_all number rows) old new (Ok count) → Goes number rows old new
rows_by text size is plain whole number rows old new count len values h =
    let it = λ (ready : IsReady old.now). adds_all text size is plain whole old new number rows count len values ready h.0 in
    record {
      was_open = λ _. h.1.was_open;
      inside = h.1.mode;
      kept = kept_by text (params_all number rows) old new (Ok count) h;
      ready = λ ready. (it ready).ready;
      table = λ ready. (it ready).table;
      others = λ ready. (it ready).others;
    }

module _ {S : Type 0} (g : Ghosts S) (number : ℤ) where
  change_made : (key : List ℕ) (value : Option ℤ) (old new : Held S) → IsTrue (state g old).in_transaction → MakesChange g number key value old new → Makes key (under number value) (state g old) (state g new)
  change_made key None old new inside h = removes (state g old) (state g new) key h.0 h.1
  change_made key (Some value) old new inside h = makes_put g key value number old new inside h

  pub each_goes : (cs : List Change) (old new : Held S) → IsTrue (state g old).in_transaction → MakesEach g number cs old new → Goes number cs (state g old) (state g new)
  each_goes [] old new inside same = subst (λ h. Goes number [] (state g old) (state g h)) (sym same) (goes_none number (state g old) inside)
  each_goes (c ∷ cs) old new inside h =
      let one = goes_one number c (state g old) (state g h.0) (change_made c.key c.value old h.0 inside h.1) in
      goes_then number (c ∷ []) cs (state g old) (state g h.0) (state g new) one (each_goes cs h.0 new one.inside h.2)

  rows_added : (rows : List Change) (old new : Held S) (count : ℕ) → AnsweredRows g number rows old new (Ok count) → Goes number rows (state g old) (state g new)
  rows_added rows old new count (values, inl (len, h)) = rows_by insert_4_text 4 insert_4_is insert_4_plain refl number rows (state g old) (state g new) count len values h
  rows_added rows old new count (values, inr (len, h)) = rows_by insert_16_text 16 insert_16_is insert_16_plain refl number rows (state g old) (state g new) count len values h

  pub rows_kept : (rows : List Change) (old new : Held S) (r : Result ℕ Error) → AnsweredRows g number rows old new r → KeepsCommit (state g old) (state g new)
  rows_kept rows old new r (values, inl (len, h)) = kept_by insert_4_text (params_all number rows) (state g old) (state g new) r h
  rows_kept rows old new r (values, inr (len, h)) = kept_by insert_16_text (params_all number rows) (state g old) (state g new) r h

  pub rows_caused : (rows : List Change) (old new : Held S) (e : Error) → AnsweredRows g number rows old new (Err e) → IsCaused (state g old) (state g new) e
  rows_caused rows old new e (values, inl (len, h)) = inside_caused insert_4_text (params_all number rows) (state g old) (state g new) e h
  rows_caused rows old new e (values, inr (len, h)) = inside_caused insert_16_text (params_all number rows) (state g old) (state g new) e h

  rows_stand : (rows : List Change) (old new : Held S) (e : Error) → breaks_rule e ≡ true → AnsweredRows g number rows old new (Err e) → IsUnchanged (state g old) (state g new)
  rows_stand rows old new e breaks (values, inl (len, h)) = stands insert_4_text (params_all number rows) (state g old) (state g new) e breaks h
  rows_stand rows old new e breaks (values, inr (len, h)) = stands insert_16_text (params_all number rows) (state g old) (state g new) e breaks h

  -- an insert that would have broken a rule changed nothing
  pub left_goes : (rows : List Change) (old new : Held S) → IsTrue (state g old).in_transaction → AreLeft g number rows old new → Goes number [] (state g old) (state g new)
  left_goes rows old new inside (e, breaks, h) = goes_left number (state g old) (state g new) (passes_unchanged (state g old) (state g new) inside (rows_kept rows old new (Err e) h) (rows_stand rows old new e breaks h))

  rows_go : (rows : List Change) (old new : Held S) → IsTrue (state g old).in_transaction → MakesRows g number rows old new → Goes number rows (state g old) (state g new)
  rows_go rows old new inside (inl (count, h)) = rows_added rows old new count h
  rows_go rows old new inside (inr (next, were_left, h)) =
      let stood = left_goes rows old next inside were_left in
      goes_then number [] rows (state g old) (state g next) (state g new) stood (each_goes rows next new stood.inside h)

  pub piece_goes : (piece : List Change) (old new : Held S) → IsTrue (state g old).in_transaction → MakesPiece g number piece old new → Goes number piece (state g old) (state g new)
  piece_goes piece old new inside (inl (one, h)) = each_goes piece old new inside h
  piece_goes piece old new inside (inr h) = rows_go piece old new inside h

  pieces_go : (pieces : List (List Change)) (old new : Held S) → IsTrue (state g old).in_transaction → MakesPieces g number pieces old new → Goes number (joined pieces) (state g old) (state g new)
  pieces_go [] old new inside same = subst (λ h. Goes number [] (state g old) (state g h)) (sym same) (goes_none number (state g old) inside)
  pieces_go (piece ∷ more) old new inside h =
      let first = piece_goes piece old h.0 inside h.1 in
      goes_then number piece (joined more) (state g old) (state g h.0) (state g new) first (pieces_go more h.0 new first.inside h.2)

  -- what was executed makes the changes
  pub executed_goes : (cs : List Change) (old new : Held S) → IsTrue (state g old).in_transaction → ExecutedEach g number cs old new → Goes number cs (state g old) (state g new)
  executed_goes cs old new inside h = subst (λ l. Goes number l (state g old) (state g new)) (sym h.1) (pieces_go h.0 old new inside h.2)

  -- ---- what the functions say that make them

  -- a change behind others, and those that are left behind it
  pub each_then : (cs after : List Change) (c : Change) {old last new : Held S} {r : Result (Unit {0}) Error} → Steps (state g old) (state g last) → IfInside g old last (MakesEach g number cs old last)
      → Answers g (MakesChange g number c.key c.value) (FailsToChange g number c.key c.value) last new r → Answers g (MakesEach g number (cs ++ c ∷ [])) (EachGives g number (cs ++ c ∷ after)) old new r
  each_then cs after c {old = old} {last = last} {new = new} {r = r} steps all h =
      answers_then g steps (λ clean inside. (each_goes cs old last inside (all clean inside)).inside)
      (λ was inside. on_ok_then r (λ one. each_more g number cs c old last new (all was inside) one))
      (λ was inside e gave. record { before = cs; change = c; after = after; are = refl; last = last; executed = all was inside; gives = gave }) h

  -- a piece behind others, and those that are left behind it
  pub piece_then : (cs piece after : List Change) {old last new : Held S} {r : Result (Unit {0}) Error} → Steps (state g old) (state g last) → IfInside g old last (ExecutedEach g number cs old last)
      → Answers g (MakesPiece g number piece) (PieceGives g number piece) last new r → Answers g (ExecutedEach g number (cs ++ piece)) (λ first _ e. ChangeGives g number (cs ++ piece ++ after) first e) old new r
  piece_then cs piece after {old = old} {last = last} {new = new} {r = r} steps all h =
      answers_then g steps (λ clean inside. (executed_goes cs old last inside (all clean inside)).inside)
      (λ was inside. on_ok_then r (λ one. executed_more g number cs piece old last new (all was inside) one))
      (λ was inside e gave. record { before = cs; piece = piece; after = after; are = refl; last = last; left = new; executed = all was inside; gives = gave }) h

  -- one insert of several rows
  rows_steps : (rows : List Change) (old new : Held S) (r : Result ℕ Error) → IfInside g old new (AnsweredRows g number rows old new r) → Survives (state g old) (state g new) (λ _. ⊥) → Steps (state g old) (state g new)
  rows_steps rows old new r h = steps_from (state g old) (state g new) (λ clean inside. rows_kept rows old new r (h clean inside))

  pub rows_ran : {rows : List Change} {old new : Held S} (count : ℕ) → IfInside g old new (AnsweredRows g number rows old new (Ok count)) → Survives (state g old) (state g new) (λ _. ⊥)
      → Answers g (MakesRows g number rows) (RowsGive g number rows) old new (Ok tt)
  rows_ran {rows = rows} {old = old} {new = new} count h survives = did_so g (rows_steps rows old new (Ok count) h survives) (λ clean inside. inl (count, h clean inside))

  pub rows_failed : {rows : List Change} {old new : Held S} {e : Error} → breaks_rule e ≡ false → IfInside g old new (AnsweredRows g number rows old new (Err e)) → Survives (state g old) (state g new) (λ _. ⊥)
      → Answers g (MakesRows g number rows) (RowsGive g number rows) old new (Err e)
  rows_failed {rows = rows} {old = old} {new = new} {e = e} other h survives =
      gave_so g (rows_steps rows old new (Err e) h survives) (λ clean inside. rows_caused rows old new e (h clean inside)) (λ clean inside. inl (other, h clean inside))

  -- each change is made that such an insert left
  pub rows_left : {rows : List Change} {old next new : Held S} {r : Result (Unit {0}) Error} (e : Error) → breaks_rule e ≡ true → IfInside g old next (AnsweredRows g number rows old next (Err e))
      → Survives (state g old) (state g next) (λ _. ⊥) → Answers g (MakesEach g number rows) (EachGives g number rows) next new r → Answers g (MakesRows g number rows) (RowsGive g number rows) old new r
  rows_left {rows = rows} {old = old} {next = next} {r = r} e breaks ran survives h =
      answers_then g (rows_steps rows old next (Err e) ran survives) (λ clean inside. (left_goes rows old next inside (e, breaks, ran clean inside)).inside)
      (λ was inside. on_ok_then r (λ made. inr (next, (e, breaks, ran was inside), made))) (λ was inside x gave. inr (next, (e, breaks, ran was inside), gave)) h
