use Rattle.std.proofs.Common.{sym, ◌∙◌}
use Rattle.request_lines.proofs.Feeds.{hands_all, hands_front}
use Rattle.request_lines.proofs.piece.Piece.hand_over.Goals as goal

pub returns-in-Some : goal.returns-in-Some
returns-in-Some c =
    hands_front c.as_bytes-bytes.result.now c.args.self.now c.skip.new.self c.in-Some.len c.args.line.now c.add.new.self
    c.as_bytes-bytes.ensures (sym c.first_feed.ensures ∙ c.in-Some.is) c.add.ensures c.skip.ensures

pub returns-in-None : goal.returns-in-None
returns-in-None c =
    hands_all c.as_bytes-bytes.result.now c.args.self.now c.clear.new.self c.args.line.now c.add-in-None.new.self
    c.as_bytes-bytes.ensures (sym c.first_feed.ensures ∙ c.in-None.is) c.add-in-None.ensures c.clear.ensures
