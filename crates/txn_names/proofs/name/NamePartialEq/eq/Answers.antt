use Rattle.std.proofs.Common.{nat_eq, ap, ◌∙◌}
use Rattle.std.specs.Cmp.{both_ways}
use Rattle.std.specs.Cmp.Lexicographic.{pointwise}
use Rattle.std.proofs.lemmas.Slice.Eq.{bytes_eq-Decides}
use Rattle.txn_names.specs.Path.{Path, path_eq}
use Rattle.txn_names.specs.Reading.{pieces}
use Rattle.txn_names.proofs.Alike.{pieces_decide}
use Rattle.txn_names.proofs.name.NamePartialEq.eq.Goals as goal

pub returns : goal.returns
returns c =
    let ours = c.spelled.result.now in
    let theirs = c.spelled-2.result.now in
    let decides = bytes_eq-Decides ours theirs in
    both_ways c.are_same.result (pointwise nat_eq ours theirs) (λ e. decides.1 (c.are_same.ensures.0 e)) (λ e. c.are_same.ensures.1 (decides.0 e))
    ∙ pieces_decide ours theirs
    ∙ ap (λ (p : Path). path_eq p (pieces theirs)) c.spelled.ensures.pieces
    ∙ ap (λ (p : Path). path_eq c.args.self.now p) c.spelled-2.ensures.pieces
