use Rattle.std.proofs.Common.{◌<◌, length, refl, sym, arith}
use Rattle.std.proofs.lemmas.Option.{slice_get_past, slice_get_read}
use Rattle.txn_cells.proofs.Holding.{length-zip}
use Rattle.txn_cells.proofs.Zipped.{zip-get}
use Rattle.txn_cells.proofs.key_lists.KeyList.get.Goals as goal

pub returns-then-index-len : goal.returns-then-index-len
returns-then-index-len c =
    let l = c.self.inside in
    let within : c.args.index < length l.keys.items = omega (arith, c.len.ensures, l.keys.ok.0) in
    let too : c.args.index < length l.places.items = omega (arith, within, c.self.invariant.1) in
    rw (sym c.self.view_is)
    (sym (zip-get l.keys.items l.places.items c.args.index c.index.result.now c.index-then-index-len.result.now
    (slice_get_read l.keys.items (length l.keys.items) c.args.index c.index.result.now refl within c.index.ensures)
    (slice_get_read l.places.items (length l.places.items) c.args.index c.index-then-index-len.result.now refl too c.index-then-index-len.ensures)))

pub returns-else-index-len : goal.returns-else-index-len
returns-else-index-len c =
    let l = c.self.inside in
    let long = length-zip l.keys.items l.places.items c.self.invariant.1 in
    rw (sym c.self.view_is) (sym (slice_get_past _ c.args.index (omega (arith, long, c.len.ensures, l.keys.ok.0))))
