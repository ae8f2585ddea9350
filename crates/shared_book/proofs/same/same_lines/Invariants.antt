use Rattle.std.proofs.Common.{◌≡◌, ℕ, ◌-◌, ◌<◌, ◌≤◌}
use Rattle.session_text.specs.Grammar.{IsText}
use Rattle.session_text.specs.Texts.{line_at}
use Rattle.shared_book.proofs.same.same_lines.Given as goal

-- the lines before this one are the same
abbrev pub invariant-loop-line : goal.invariant-loop-line
invariant-loop-line l = record {
  text : IsText l.a;
  line : (1 ≤ l.line) × (l.line ≤ 1025);
  same : (i : ℕ) → 1 ≤ i → i < l.line → line_at l.a l.session i ≡ line_at l.b l.session i;
}

abbrev pub decreases-loop-line : goal.decreases-loop-line
decreases-loop-line l = 1025 - l.line
