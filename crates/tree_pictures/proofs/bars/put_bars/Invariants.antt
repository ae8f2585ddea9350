use Rattle.std.proofs.Common.{◌≡◌, ◌<◌, ◌-◌, ◌^◌, ◌++◌, length}
use Rattle.tree_pictures.specs.Bars.{bar_rows, groups}
use Rattle.tree_pictures.proofs.bars.put_bars.Given as goal

abbrev pub invariant-loop-row : goal.invariant-loop-row
invariant-loop-row l = record {
  short : length l.rest < 2 ^ 63;
  all : l.out.items ++ bar_rows l.names.keys l.scale l.row (groups (l.scale.rows - l.row) l.scale.together l.rest) ≡ l.initial.out.items ++ bar_rows l.names.keys l.scale 0 (groups l.scale.rows l.scale.together l.shown);
}
