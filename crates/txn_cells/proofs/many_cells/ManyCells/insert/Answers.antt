use Rattle.std.proofs.Common.{◌≡◌, ◌≤◌, ◌+◌, ◌∙◌, ℕ, List, None, false, length, sym, ap}
use Rattle.txn_cells.specs.Kept.{Held, holds}
use Rattle.txn_cells.proofs.Finding.{holders_put, last_at, last_more}
use Rattle.txn_cells.proofs.First.{put_and_taken}
use Rattle.txn_cells.proofs.many_cells.ManyCells.insert.Goals as goal

pub invariant_of-self-in-Ok : goal.invariant_of-self-in-Ok
invariant_of-self-in-Ok g c =
    let had : Held _ = c.self.inside.contents.entries in
    let m = c.make_room.new.contents in
    let now = c.insert_full.new.self.entries in
    let ns : List ℕ = c.self.inside.numbers in
    let t : ℕ = c.args.txn in
    let within : c.place_for-place.result ≤ length ns = rw c.as_slice.ensures at c.place_for-place.ensures.within in
    let rising = rw c.as_slice.ensures at c.place_for-place.ensures.rising in
    let fresh_before : holds had t ≡ false = rw (sym c.self.view_is) at c.requires in
    let fresh : holds m.entries t ≡ false = rw c.make_room.ensures fresh_before in
    rw c.in_ok-insert.ensures.ok
    (holders_put ns had now c.self.invariant t c.place_for-place.result within rising (rw c.make_room.ensures at c.in-Ok.ensures.updates.0)
    (last_more m now t None fresh c.in-Ok.ensures.entries ∙ ap (λ (es : Held _). length es + 1) c.make_room.ensures))

pub invariant_of-self-in-Err : goal.invariant_of-self-in-Err
invariant_of-self-in-Err g c =
    let ns : List ℕ = c.self.inside.numbers in
    let within : c.place_for-place.result ≤ length ns = rw c.as_slice.ensures at c.place_for-place.ensures.within in
    rw (c.remove.ensures, c.in_ok-insert.ensures.ok, put_and_taken c.place_for-place.result ns c.args.txn within, c.in-Err.ensures.err, c.make_room.ensures) c.self.invariant

pub returns-in-Ok-clause-at : goal.returns-in-Ok-clause-at
returns-in-Ok-clause-at g c =
    let m = c.make_room.new.contents in
    let fresh_before : holds c.self.inside.contents.entries c.args.txn ≡ false = rw (sym c.self.view_is) at c.requires in
    let fresh : holds m.entries c.args.txn ≡ false = rw c.make_room.ensures fresh_before in
    last_at m c.insert_full.new.self.entries c.args.txn None fresh c.in-Ok.ensures.entries c.in-Ok.index c.in-Ok.ensures.index

pub returns-in-Ok-clause-changed : goal.returns-in-Ok-clause-changed
returns-in-Ok-clause-changed g c = rw (c.make_room.ensures, c.self.view_is) at c.in-Ok.ensures.updates.0

pub returns-in-Ok-clause-more : goal.returns-in-Ok-clause-more
returns-in-Ok-clause-more g c =
    let m = c.make_room.new.contents in
    let fresh_before : holds c.self.inside.contents.entries c.args.txn ≡ false = rw (sym c.self.view_is) at c.requires in
    let fresh : holds m.entries c.args.txn ≡ false = rw c.make_room.ensures fresh_before in
    last_more m c.insert_full.new.self.entries c.args.txn None fresh c.in-Ok.ensures.entries
    ∙ ap (λ (es : Held _). length es + 1) (c.make_room.ensures ∙ c.self.view_is)
