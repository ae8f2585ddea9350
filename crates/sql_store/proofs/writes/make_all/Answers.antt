use Rattle.std.proofs.lemmas.Int.{to_z-of_z}
use Rattle.std.proofs.Common.{Ok, Err, drop, length, rules, SFits, w64, ◌≡◌, ◌≤◌, ◌∙◌, ◌+◌, ◌-◌, ◌++◌, List, ℕ, true, take, sym, ap, subst, arith}
use Rattle.std.proofs.Math.Seq.{take-add, take-length}
use Rattle.std.proofs.lemmas.List.{length-drop, drop-drop, take-append-drop}
use Rattle.sqlite.specs.Held.{state}
use Rattle.sqlite.specs.State.{HasCleanDisk}
use Rattle.txn_names.specs.declared.change.Change.{Change}
use Rattle.sql_store.specs.Asked.{have_values, Answers, ExecutedEach, ChangeGives, MakesPiece, PieceGives, IsPiece}
use Rattle.sql_store.specs.Calls.{IfInside}
use Rattle.sql_store.proofs.Answering.{answers_as}
use Rattle.sql_store.proofs.Params.{later, piece_of, piece_within}
use Rattle.sql_store.proofs.Pieces.{Goes, executed_goes, piece_then}
use Rattle.sql_store.proofs.writes.make_all.Given as given
use Rattle.sql_store.proofs.writes.make_all.Goals as goal

-- the changes from a place on, and the piece that is cut out there
rest : (changes : List Change) (place : ℕ) → take (length changes - place) (drop place changes) ≡ drop place changes
rest changes place = ap (λ n. take n (drop place changes)) (sym (length-drop place changes)) ∙ take-length (drop place changes)

piece_is : (changes : List Change) (place count : ℕ) → take (place + count - place) (drop place changes) ≡ take count (drop place changes)
piece_is changes place count = let same : place + count - place ≡ count = omega arith in ap (λ n. take n (drop place changes)) same

pub make_piece-requires : goal.make_piece-requires
make_piece-requires g c =
    let changes : List Change = c.args.changes.now in
    let place : ℕ = c.loop-place.place in
    let low : c.new_len-fresh.result ≤ length (drop place changes) = rw (rest changes place) at c.new_len-fresh.ensures.within in
    let values : have_values (take c.new_len-fresh.result (drop place changes)) ≡ true = rw (rest changes place) at c.new_len-fresh.ensures.values in
    record {
      piece = subst IsPiece (sym (piece_is changes place c.piece_len-count.result))
          (piece_of c.new_len-fresh.result c.piece_len-count.result (drop place changes) (omega (arith, length-drop place changes)) low values c.piece_len-count.ensures);
    }

pub loop-place-preserved : goal.loop-place-preserved
loop-place-preserved g c =
    let old = c.args.tx.now.conn.now in
    let last = c.loop-place.tx.conn.now in
    let new = c.make_piece.new.tx.conn.now in
    let changes : List Change = c.args.changes.now in
    let place : ℕ = c.loop-place.place in
    let count : ℕ = c.piece_len-count.result in
    let piece : List Change = take count (drop place changes) in
    let low : c.new_len-fresh.result ≤ length changes - place = rw (rest changes place, length-drop place changes) at c.new_len-fresh.ensures.within in
    let values : have_values (take c.new_len-fresh.result (drop place changes)) ≡ true = rw (rest changes place) at c.new_len-fresh.ensures.values in
    let fits : SFits w64 c.args.number = c.ranges.number in
    let all = simp to_z-of_z at c.loop-place.invariant.asked in
    let one = simp to_z-of_z at c.in_ok-make_piece.ensures.answers in
    let made : Answers g.S.Store (MakesPiece g.S.Store c.args.number piece) (PieceGives g.S.Store c.args.number piece) last new (Ok tt) =
    subst (λ p. Answers g.S.Store (MakesPiece g.S.Store c.args.number p) (PieceGives g.S.Store c.args.number p) last new (Ok tt)) (piece_is changes place count) one in
    let both = piece_then g.S.Store c.args.number (take place changes) piece (drop (place + count) changes) c.loop-place.invariant.steps all made in
    record {
      within = omega (arith, c.saturating_sub-fresh.ensures, piece_within c.new_len-fresh.result count (length changes - place) (omega arith) low c.piece_len-count.ensures);
      values = rw (← drop-drop count place changes) (later count c.new_len-fresh.result c.saturating_sub-fresh.result (drop place changes) c.saturating_sub-fresh.ensures values);
      same = c.make_piece.ensures.same_reference ∙ c.loop-place.invariant.same;
      steps = both.steps;
      asked = simp to_z-of_z (subst (λ cs. IfInside g.S.Store old new (ExecutedEach g.S.Store c.args.number cs old new)) (sym (take-add place count changes)) both.asked);
    }

pub returns-in_err-make_piece-clause-answers : goal.returns-in_err-make_piece-clause-answers
returns-in_err-make_piece-clause-answers g c =
    let old = c.args.tx.now.conn.now in
    let last = c.loop-place.tx.conn.now in
    let new = c.make_piece.new.tx.conn.now in
    let changes : List Change = c.args.changes.now in
    let place : ℕ = c.loop-place.place in
    let count : ℕ = c.piece_len-count.result in
    let piece : List Change = take count (drop place changes) in
    let fits : SFits w64 c.args.number = c.ranges.number in
    let all = simp to_z-of_z at c.loop-place.invariant.asked in
    let e = c.in_err-make_piece.field-0.0 in
    let one = simp to_z-of_z at c.in_err-make_piece.ensures.answers in
    let gave : Answers g.S.Store (MakesPiece g.S.Store c.args.number piece) (PieceGives g.S.Store c.args.number piece) last new (Err e) =
    subst (λ p. Answers g.S.Store (MakesPiece g.S.Store c.args.number p) (PieceGives g.S.Store c.args.number p) last new (Err e)) (piece_is changes place count) one in
    let whole : changes ≡ take place changes ++ piece ++ drop (place + count) changes =
    sym (take-append-drop (place + count) changes) ∙ ap (λ l. l ++ drop (place + count) changes) (take-add place count changes) in
    let same : c.from_residual.result ≡ Err e = search rules in
    rw same (answers_as g.S.Store (λ h. h) (λ x h. subst (λ cs. ChangeGives g.S.Store c.args.number cs old x) (sym whole) h)
    (piece_then g.S.Store c.args.number (take place changes) piece (drop (place + count) changes) c.loop-place.invariant.steps all gave))

-- behind the last piece all changes are made
all_made : (g : given.Over) (c : goal.After-loop-place g) → HasCleanDisk (state g.S.Store c.loop-place.tx.conn.now) → Goes c.args.number c.args.changes.now (state g.S.Store c.args.tx.now.conn.now) (state g.S.Store c.loop-place.tx.conn.now)
all_made g c clean =
    let changes : List Change = c.args.changes.now in
    let fits : SFits w64 c.args.number = c.ranges.number in
    let all = simp to_z-of_z at (c.loop-place.invariant.asked clean c.requires.inside) in
    let same : length changes ≡ c.loop-place.place = omega (arith, c.loop-place.invariant.within) in
    executed_goes g.S.Store c.args.number changes c.args.tx.now.conn.now c.loop-place.tx.conn.now c.requires.inside
    (subst (λ cs. ExecutedEach g.S.Store c.args.number cs c.args.tx.now.conn.now c.loop-place.tx.conn.now) (ap (λ n. take n changes) (sym same) ∙ take-length changes) all)

pub returns-clause-made : goal.returns-clause-made
returns-clause-made g c clean ready = let it = all_made g c clean in record { ready = it.ready ready; table = it.table ready; others = it.others ready }

pub returns-clause-opened : goal.returns-clause-opened
returns-clause-opened g c clean = (all_made g c clean).was_open

pub returns-clause-inside : goal.returns-clause-inside
returns-clause-inside g c clean = (all_made g c clean).inside
