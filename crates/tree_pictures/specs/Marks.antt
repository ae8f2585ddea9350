-- Accesses and victims in a picture. Each transaction has a row of its own there: its place in the
-- order of the tree.
use Rattle.std.specs.Prelude.{ℕ, suc, ◌&&◌, nat_le, nat_lt, Bool, List, [], ◌∷◌, ◌++◌, codes, decimal, Option, Some, None}
use Rattle.report_marks.specs.declared.deeds.Deed.{Deed}
use Rattle.report_marks.specs.declared.deeds.Deed.TheVariants as deed
use Rattle.report_marks.specs.declared.deeds.Mark.{Mark}
use Rattle.report_trees.specs.declared.outcomes.Ending.TheVariants as ending
use Rattle.report_trees.specs.declared.outcomes.Outcome.{Outcome}
use Rattle.report_trees.specs.declared.outcomes.Outcome.TheVariants as outcome
use Rattle.report_trees.specs.declared.outcomes.Shown.{Shown}
use Rattle.report_trees.specs.Telling.{how_many}
use Rattle.report_trees.specs.declared.telling.Wait.{Wait}
use Rattle.tree_pictures.specs.Elements.{point}
use Rattle.tree_pictures.specs.Scale.{line_of, plus, x_of, y_of}
use Rattle.tree_pictures.specs.Waits.{place_of}
use Rattle.tree_pictures.specs.declared.scale.Scale.{Scale}

-- ---- accesses: ticks at the lower edge of a bar

abbrev pub tick_at : Scale → ℕ → ℕ → List ℕ
tick_at sc n row = codes "M" ++ point (x_of sc n) (plus (y_of row) 110) ++ codes "v4"

abbrev pub tick_to : Scale → ℕ → Option ℕ → List ℕ
tick_to sc n None = []
tick_to sc n (Some row) = tick_at sc n row

abbrev pub tick_in : Scale → List Shown → ℕ → Deed → List ℕ
tick_in sc ss n (deed.Accessed i) = tick_to sc n (place_of i ss)
tick_in sc ss n d = []

-- of these entries, from the one with the number n on
abbrev pub ticks : Scale → List Shown → ℕ → List Mark → List ℕ
ticks sc ss n [] = []
ticks sc ss n (m ∷ ms) = tick_in sc ss n m.deed ++ ticks sc ss (suc n) ms

abbrev pub tick_path : Scale → List Shown → List Mark → List ℕ
tick_path sc ss ms = codes "<path class=\"tick\" d=\"M0 0" ++ ticks sc ss 0 ms ++ codes "\"/>\n"

-- ---- victims: a cross where each ends

-- it began before the entry n, and was not answered before it
abbrev pub spans : ℕ → Wait → Bool
spans n w = nat_lt w.from n && nat_le n w.to

abbrev pub waiting_at : ℕ → List Wait → ℕ
waiting_at n ws = how_many (spans n) ws

-- it tells how many accesses waited then
abbrev pub cross : Scale → ℕ → ℕ → ℕ → List ℕ
cross sc row n waiting =
    codes "<path class=\"cross\" d=\"M-4-4L4 4M-4 4L4-4\" transform=\"translate("
    ++ point (x_of sc n) (plus (y_of row) 85)
    ++ codes ")\"><title>undone to break a cycle of waits"
    ++ (codes "; line " ++ decimal (line_of sc n)) ++ (codes "; waiting then: " ++ decimal waiting)
    ++ codes "</title></path>\n"

abbrev pub cross_at : Scale → List Wait → ℕ → Option ℕ → List ℕ
cross_at sc ws row None = []
cross_at sc ws row (Some n) = cross sc row n (waiting_at n ws)

abbrev pub cross_of : Scale → List Wait → ℕ → Outcome → Option ℕ → List ℕ
cross_of sc ws row (outcome.Undone ending.Victim) ended = cross_at sc ws row ended
cross_of sc ws row o ended = []

-- of these transactions, from this row on
abbrev pub crosses : Scale → List Wait → ℕ → List Shown → List ℕ
crosses sc ws row [] = []
crosses sc ws row (s ∷ ss) = cross_of sc ws row s.outcome s.ended ++ crosses sc ws (suc row) ss
