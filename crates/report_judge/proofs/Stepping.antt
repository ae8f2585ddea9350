-- What is seen of a report, one line later.
use Rattle.std.proofs.Common.{◌≡◌, ℕ, ℤ, ◌+◌, Bool, true, false, not, cond, ◌&&◌, List, [], ◌∷◌, ◌++◌, length, Option, Some, None, refl, sym, ap, subst, ◌∙◌, true≢false, arith}
use Rattle.std.specs.Prelude.{nat_lt}
use Rattle.std.specs.Map.{keys_of}
use Rattle.serial_spec.specs.History.{History}
use Rattle.serial_spec.specs.Rows.{Rows}
use Rattle.line_language.specs.declared.entry.ReportEntry.{ReportEntry}
use Rattle.line_language.specs.Entries.{IsReportEntry}
use Rattle.line_language.specs.Reading.{entry_of}
use Rattle.line_language.proofs.Exports.{entries_read_back}
use Rattle.report_check.specs.Passing.{Part, Start, Opening, Entries, Final, Ended, Read, at_part, entry_in, entry_next, may_add_row, may_end, may_follow, none_waits, unread, with_entry, with_opening, with_row}
use Rattle.txn_tree.specs.Asked.{live_children_of}
use Rattle.report_tables.specs.Chained.{Known}
use Rattle.report_tables.specs.Told.{AreTransactionsOf}
use Rattle.report_tables.specs.Valued.{Values, value_at}
use Rattle.report_tables.specs.declared.transactions.Transactions.{Transactions}
use Rattle.report_judge.specs.Kept.{AddsRow, Follows, IsEarly, IsKept, IsMiddle, IsSeen, Opens, Steps, known, line_of, lines_before, part_of}
use Rattle.report_judge.specs.declared.seen.Part.{Part as KeptPart}
use Rattle.report_judge.specs.declared.seen.Seen.{Seen}
use Rattle.report_tables.specs.Spoken.{AreSessionsOf}
use Rattle.report_judge.proofs.Following.{same_known, tops_are}
use Rattle.report_judge.proofs.Rowing.{may_past, rising_more, value_opened}

-- a line that may stand exactly if a test passes
pub steps_if : (m b : Bool) (r : Read) (s : Seen) → m ≡ b → (b ≡ true → IsSeen r s) → Steps b (cond m (Some r) None) s
steps_if true true r s e seen = seen refl
steps_if false false r s e seen = refl
steps_if true false r s e seen = absurd (true≢false e)
steps_if false true r s e seen = absurd (true≢false (sym e))

-- what is kept is the same in another part, of what was read and of what is seen
module _ (r : Read) (s : Seen) (kept : IsKept r s) (p : KeptPart) where
  abbrev again : Seen
  again = record { part = p; values = s.values; groups = s.groups; sessions = s.sessions; transactions = s.transactions; closing = s.closing; table = s.table }

  pub kept_again : IsKept r again
  kept_again = record { rising = kept.rising; values = kept.values; sessions = kept.sessions; transactions = kept.transactions; closing = kept.closing; table = kept.table }

  pub kept_at : (part : Part) → IsKept (at_part part r) again
  kept_at part = record { rising = kept.rising; values = kept.values; sessions = kept.sessions; transactions = kept.transactions; closing = kept.closing; table = kept.table }

-- ---- entries

middle_line : (p : Part) → IsMiddle p → lines_before p ≡ 2
middle_line Start m = absurd m
middle_line Opening m = refl
middle_line Entries m = refl
middle_line Final m = absurd m
middle_line Ended m = absurd m

middle_table : (p : Part) (r : Read) (es : Values) → IsMiddle p → IsEarly p r es → r.table ≡ []
middle_table Start r es m early = absurd m
middle_table Opening r es m early = early.1
middle_table Entries r es m early = early
middle_table Final r es m early = absurd m
middle_table Ended r es m early = absurd m

pub entry_line : (r : Read) (s : Seen) (at : ℕ) → IsSeen r s → IsMiddle r.part → at ≡ line_of r → at ≡ 2 + length r.opening + length r.history
entry_line r s at seen middle is =
    let none = ap (λ (rows : Rows). length rows) (middle_table r.part r s.values.entries middle seen.early) in
    let two = middle_line r.part middle in
    omega (arith, is, none, two)

pub entry_steps : (r : Read) (s new : Seen) (bs : List ℕ) (x : ReportEntry) → IsSeen r s → IsMiddle r.part → entry_of bs ≡ Some x → part_of new.part ≡ Entries
    → (ok : Bool) → Follows ok r x new → Steps ok (entry_next r (entry_of bs)) new
entry_steps r s new bs x seen middle read part ok follows = subst (λ (o : Option ReportEntry). Steps ok (entry_next r o) new) (sym read) (by ok follows)
  where
    by : (ok : Bool) → Follows ok r x new → Steps ok (cond (may_follow r.history (entry_in r.labels x)) (Some (with_entry r x)) None) new
    by true f = steps_if (may_follow r.history (entry_in r.labels x)) true (with_entry r x) new f.0
        (λ _. record { part = part; early = middle_table r.part r s.values.entries middle seen.early; kept = f.1 })
    by false f = steps_if (may_follow r.history (entry_in r.labels x)) false (with_entry r x) new f (λ e. absurd (true≢false (sym e)))

pub no_entry : (r : Read) (new : Seen) (bs : List ℕ) → entry_of bs ≡ None → Steps false (entry_next r (entry_of bs)) new
no_entry r new bs read = ap (entry_next r) read

pub is_entry : (bs : List ℕ) (x : ReportEntry) → entry_of bs ≡ Some x → IsReportEntry x
is_entry bs x read = ((entries_read_back bs x).0 read).0

-- ---- the line `table`

pub ends : (r : Read) (s : Seen) (b : Bool) → IsKept r s → (not (nat_lt 0 (live_children_of s.transactions.tree [])) && none_waits r.history (length r.labels)) ≡ b → may_end r ≡ b
ends r s b kept is = ap (λ c. c && none_waits r.history (length r.labels)) (tops_are r.history s.transactions.tree kept.transactions.in_tree) ∙ is

-- ---- rows

-- nothing was done: what is kept of transactions says the same over any rows, keys and groups
fresh_transactions : (base base2 : ℕ) (known known2 : Known) (h : History) (x : Transactions) → h ≡ [] → AreTransactionsOf base known h x → AreTransactionsOf base2 known2 h x
fresh_transactions base base2 known known2 h x none are = subst (λ (g : History). AreTransactionsOf base2 known2 g x) (sym none) (by (subst (λ (g : History). AreTransactionsOf base known g x) none are))
  where
    by : AreTransactionsOf base known [] x → AreTransactionsOf base2 known2 [] x
    by now = record {
      in_tree = now.in_tree;
      grown = now.grown;
      in_chains = record { level = now.in_chains.level; each = now.in_chains.each; apart = now.in_chains.apart; fresh = λ t gone. refl };
    }

early_at : (p : Part) (r : Read) (es : Values) → p ≡ Opening → IsEarly p r es → IsEarly Opening r es
early_at p r es at early = subst (λ (q : Part). IsEarly q r es) at early

pub opening_steps : (r : Read) (s new : Seen) (k : List ℕ) (v : ℤ) → IsSeen r s → r.part ≡ Opening → new.part ≡ s.part → new.sessions.entries ≡ s.sessions.entries → new.transactions ≡ s.transactions
    → new.closing ≡ s.closing → new.table.items ≡ s.table.items → (ok : Bool) → Opens ok r.opening k v new.values.entries
    → Steps ok (cond (may_add_row r.opening k) (Some (with_opening r (k, v))) None) new
opening_steps r s new k v seen at part sessions transactions closing table ok opens = by ok opens
  where
    by : (ok : Bool) → Opens ok r.opening k v new.values.entries → Steps ok (cond (may_add_row r.opening k) (Some (with_opening r (k, v))) None) new
    by false o = steps_if (may_add_row r.opening k) false (with_opening r (k, v)) new o (λ e. absurd (true≢false (sym e)))
    by true o =
        let early = early_at r.part r s.values.entries at seen.early in
        steps_if (may_add_row r.opening k) true (with_opening r (k, v)) new o.0
        (λ _. record {
          part = ap part_of part ∙ seen.part ∙ at;
          early = (early.0, early.1, o.1);
          kept = record {
            rising = rising_more r.opening k v seen.kept.rising (may_past r.opening k o.0);
            values = λ q. ap (λ es. value_at es q) o.1 ∙ value_opened (r.opening ++ (k, v) ∷ []) q;
            sessions = subst (λ es. AreSessionsOf r.labels r.history es) (sym sessions) seen.kept.sessions;
            transactions = subst (λ (x : Transactions). AreTransactionsOf (1 + length (r.opening ++ (k, v) ∷ [])) (known new) r.history x) (sym transactions)
                (fresh_transactions (1 + length r.opening) (1 + length (r.opening ++ (k, v) ∷ [])) (known s) (known new) r.history s.transactions early.0 seen.kept.transactions);
            closing = closing ∙ seen.kept.closing;
            table = table ∙ seen.kept.table;
          };
        })

pub final_steps : (r : Read) (s new : Seen) (k : List ℕ) (v : ℤ) → IsSeen r s → r.part ≡ Final → new.part ≡ s.part → new.values.entries ≡ s.values.entries → keys_of new.groups.entries ≡ keys_of s.groups.entries → new.sessions.entries ≡ s.sessions.entries
    → new.transactions ≡ s.transactions → new.closing ≡ s.closing → (ok : Bool) → AddsRow ok s.table.items k v new.table.items
    → Steps ok (cond (may_add_row r.table k) (Some (with_row r (k, v))) None) new
final_steps r s new k v seen at part values groups sessions transactions closing ok adds = by ok adds
  where
    by : (ok : Bool) → AddsRow ok s.table.items k v new.table.items → Steps ok (cond (may_add_row r.table k) (Some (with_row r (k, v))) None) new
    by false o = steps_if (may_add_row r.table k) false (with_row r (k, v)) new (ap (λ rows. may_add_row rows k) (sym seen.kept.table) ∙ o) (λ e. absurd (true≢false (sym e)))
    by true o = steps_if (may_add_row r.table k) true (with_row r (k, v)) new (ap (λ rows. may_add_row rows k) (sym seen.kept.table) ∙ o.0)
        (λ _. record {
          part = ap part_of part ∙ seen.part ∙ at;
          early = tt;
          kept = record {
            rising = seen.kept.rising;
            values = λ q. ap (λ es. value_at es q) values ∙ seen.kept.values q;
            sessions = subst (λ es. AreSessionsOf r.labels r.history es) (sym sessions) seen.kept.sessions;
            transactions = subst (λ ks. AreTransactionsOf (1 + length r.opening) ks r.history new.transactions) (sym (same_known s new values groups))
                (subst (λ (x : Transactions). AreTransactionsOf (1 + length r.opening) (known s) r.history x) (sym transactions) seen.kept.transactions);
            closing = closing ∙ seen.kept.closing;
            table = o.1 ∙ ap (λ rows. rows ++ (k, v) ∷ []) seen.kept.table;
          };
        })

-- ---- the first line

pub start_early : (r : Read) (es : Values) → r.part ≡ Start → IsEarly r.part r es → IsEarly Opening r es
start_early r es at early = let e : IsEarly Start r es = subst (λ (q : Part). IsEarly q r es) at early in (e.0, e.1, e.2)

pub opening_early : (r : Read) (es : Values) → r.part ≡ Opening → IsEarly r.part r es → IsEarly Opening r es
opening_early r es at early = early_at r.part r es at early

-- ---- no lines

no_sessions : AreSessionsOf [] [] []
no_sessions = record { keys = refl; few = omega arith; each = λ s x at. cc; later = λ s past. (refl, refl) }

pub seen_none : (s : Seen) → part_of s.part ≡ Start → s.values.entries ≡ [] → s.sessions.entries ≡ [] → AreTransactionsOf 1 (known s) [] s.transactions → s.closing ≡ false → s.table.items ≡ []
    → IsSeen unread s
seen_none s part values sessions transactions closing table = record {
  part = part;
  early = (refl, refl, values, refl);
  kept = record {
    rising = tt;
    values = λ k. ap (λ (es : Values). value_at es k) values;
    sessions = subst (λ es. AreSessionsOf [] [] es) (sym sessions) no_sessions;
    transactions = transactions;
    closing = closing;
    table = table;
  };
}
