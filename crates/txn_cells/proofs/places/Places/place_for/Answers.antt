use Rattle.std.proofs.Common.{◌≡◌, List, ℕ, [], None, false, ap, sym, ◌∙◌}
use Rattle.std.specs.Prelude.{is_some, unwrap_or}
use Rattle.std.specs.Map.{keys_of, lookup}
use Rattle.std.proofs.lemmas.Bool.{false≢true}
use Rattle.std.proofs.lemmas.Map.Entries.{length-keys_of}
use Rattle.indexmap.proofs.CallerLemmas.{insert_entry-new}
use Rattle.txn_names.specs.Path.{label_eq}
use Rattle.txn_cells.proofs.Placing.{key_at_place, keys_pushed, last_at, stay_pushed}
use Rattle.txn_cells.proofs.Puts.{held_empty, none_from, none_placed}
use Rattle.txn_cells.proofs.places.Places.place_for.Goals as goal

pub returns-in-Some-get_index_of-clause-place : goal.returns-in-Some-get_index_of-clause-place
returns-in-Some-get_index_of-clause-place g c = key_at_place c.args.key.now (keys_of c.self.inside.holders.entries) c.in-Some-get_index_of.place (sym c.in-Some-get_index_of.ensures.index)

pub returns-in-Ok-clause-held : goal.returns-in-Ok-clause-held
returns-in-Ok-clause-held g c =
    let es = c.self.inside.holders.entries in
    let k = c.args.key.now in
    let none : is_some (lookup (label_eq k) es) ≡ false = sym c.in_default-get_index_of.ensures.found in
    rw (sym c.self.view_is) (λ q. ap (λ o. unwrap_or o []) (rw c.new.ensures at (c.in-Ok.ensures.updates.0 q)) ∙ held_empty es k none q)

pub returns-in-Ok-clause-place : goal.returns-in-Ok-clause-place
returns-in-Ok-clause-place g c =
    let m = c.self.inside.holders in
    let k : List ℕ = c.args.key.now in
    let none : lookup (label_eq k) m.entries ≡ None = none_from (lookup (label_eq k) m.entries) (sym c.in_default-get_index_of.ensures.found) in
    let keys = ap (λ es. keys_of es) (c.in-Ok.ensures.entries ∙ insert_entry-new label_eq m k _ none) ∙ keys_pushed m.entries k _ in
    rw (keys, c.len-place.ensures.len ∙ sym (length-keys_of m.entries)) (last_at (keys_of m.entries) k)

pub returns-in-Ok-clause-stay : goal.returns-in-Ok-clause-stay
returns-in-Ok-clause-stay g c =
    let m = c.self.inside.holders in
    let k : List ℕ = c.args.key.now in
    let none : lookup (label_eq k) m.entries ≡ None = none_from (lookup (label_eq k) m.entries) (sym c.in_default-get_index_of.ensures.found) in
    let keys = ap (λ es. keys_of es) (c.in-Ok.ensures.entries ∙ insert_entry-new label_eq m k _ none) ∙ keys_pushed m.entries k _ in
    rw (keys, sym c.self.view_is) (stay_pushed (keys_of m.entries) k)

pub returns-clause-succeeds : goal.returns-clause-succeeds
returns-clause-succeeds g c =
    let es = c.self.inside.holders.entries in
    let k : List ℕ = c.args.key.now in
    let none : lookup (label_eq k) es ≡ None = none_from (lookup (label_eq k) es) (sym c.in_default-get_index_of.ensures.found) in
    rw (sym c.self.view_is) (λ u there. absurd (false≢true (sym (none_placed es k none u) ∙ there)))
