use Rattle.std.proofs.Common.{◌≡◌, ◌∙◌, ap, sym, take, Some, true, false, arith}
use Rattle.std.proofs.lemmas.List.{take_all}
use Rattle.txn_names.specs.Path.{Path}
use Rattle.orphans.specs.Marked.{is_marked}
use Rattle.orphans.proofs.Tops.{top_of-first, top_of-last, top_of-nowhere}
use Rattle.orphans.proofs.Marks.top_aborted.Goals as goal

pub returns-then-is_marked : goal.returns-then-is_marked
returns-then-is_marked c =
    let e = c.front-front.ensures in
    let found : is_marked c.args.self.now c.front-front.result ≡ true = sym c.is_marked.ensures ∙ c.if-is_marked.true in
    ap Some e ∙ sym (top_of-first _ _ _ (omega arith) (omega arith) c.loop-depth.invariant (rw e at found))

pub returns-then-is_marked-2 : goal.returns-then-is_marked-2
returns-then-is_marked-2 c =
    let t : Path = c.args.name.now in
    let n = c.loop-depth.depth in
    let whole : take n t ≡ t = take_all n t (omega arith) in
    let found : is_marked c.args.self.now (take n t) ≡ true = ap (is_marked c.args.self.now) whole ∙ sym c.is_marked-2.ensures ∙ c.if-is_marked-2.true in
    ap Some (sym whole) ∙ sym (top_of-first (is_marked c.args.self.now) t n (omega arith) (omega (arith, c.depth-depth-end.ensures.name.some)) c.loop-depth.invariant found)

pub returns-else-is_marked-2 : goal.returns-else-is_marked-2
returns-else-is_marked-2 c =
    let t : Path = c.args.name.now in
    let n = c.loop-depth.depth in
    let whole : take n t ≡ t = take_all n t (omega arith) in
    let missed : is_marked c.args.self.now (take n t) ≡ false = ap (is_marked c.args.self.now) whole ∙ sym c.is_marked-2.ensures ∙ c.if-is_marked-2.false in
    sym (top_of-last (is_marked c.args.self.now) t n (omega arith) c.loop-depth.invariant missed)

pub returns-then-is_empty : goal.returns-then-is_empty
returns-then-is_empty c = sym (rw (← c.self.view_is) (top_of-nowhere c.self.inside.names.keys (c.is_empty.ensures.0 c.if-is_empty.true) c.args.name.now))
