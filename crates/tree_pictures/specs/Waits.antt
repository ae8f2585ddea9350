-- The waits of a picture. Each transaction has a row of its own there: its place in the order of the
-- tree.
use Rattle.std.specs.Prelude.{ℕ, suc, ◌-◌, ◌==◌, min, max, Bool, false, if◌then◌else◌, List, [], ◌∷◌, ◌++◌, codes, drop, length, nat_le, position, slice_get, take, unwrap_or, Option, Some, None}
use Rattle.std.specs.List.{flat_map}
use Rattle.report_marks.specs.declared.deeds.Deed.{Deed}
use Rattle.report_marks.specs.declared.deeds.Deed.TheVariants as deed
use Rattle.report_marks.specs.declared.deeds.Mark.{Mark}
use Rattle.report_trees.specs.declared.outcomes.Shown.{Shown}
use Rattle.report_trees.specs.declared.telling.Wait.{Wait}
use Rattle.tree_lines.specs.Counts.{is_stuck}
use Rattle.tree_pictures.specs.Bars.{entries_title}
use Rattle.tree_pictures.specs.Elements.{opened_line, opened_rect, point, tenths}
use Rattle.tree_pictures.specs.Scale.{plus, x_of, y_of}
use Rattle.tree_pictures.specs.declared.crowds.TheConstants.{MOST_WAITS}
use Rattle.tree_pictures.specs.declared.scale.Scale.{Scale}
use Rattle.tree_pictures.specs.declared.scale.TheConstants.{ROW}
use Rattle.tree_pictures.specs.declared.waits.End.{End}
use Rattle.tree_pictures.specs.declared.waits.TheConstants.{MOST_LOOKED}

-- the place of the transaction with the number i
abbrev pub place_of : ℕ → List Shown → Option ℕ
place_of i ss = position (λ s. s.number == i) ss

-- ---- from where to where

-- the answer, or the end of its transaction if that came before
abbrev pub over_at : Option Shown → ℕ → ℕ
over_at None n = n
over_at (Some s) n = min n (unwrap_or s.ended n)

abbrev pub wait_over : List Shown → ℕ → ℕ → ℕ
wait_over ss row n = over_at (slice_get ss row) n

abbrev pub wait_rect : Scale → ℕ → ℕ → ℕ → List ℕ
wait_rect sc row from to = opened_rect (codes "wait") (x_of sc from) (plus (y_of row) 30)
    (max (x_of sc to - x_of sc from) 10) (ROW - 70) ++ codes "<title>waits"

abbrev pub wait_bar : Scale → ℕ → ℕ → ℕ → List ℕ
wait_bar sc row from to = wait_rect sc row from to
    ++ entries_title sc from to ++ codes "</title></rect>\n"

-- ---- for whom

abbrev pub end_by : ℕ → Deed → Option End
end_by n (deed.Committed i) = Some (record { number = i; entry = n })
end_by n (deed.Aborted i) = Some (record { number = i; entry = n })
end_by n d = None

abbrev pub or_known : Option End → Option End → Option End
or_known None known = known
or_known (Some e) known = Some e

-- the last commit or abort among these entries, from the one with the number n on, or the known one
abbrev pub last_end : ℕ → List Mark → Option End → Option End
last_end n [] known = known
last_end n (m ∷ ms) known = last_end (suc n) ms (or_known (end_by n m.deed) known)

-- the last one between the wait and its answer, not too far before the answer
abbrev pub last_end_before : List Mark → Wait → Option End
last_end_before ms w =
    let from = max w.from (w.to - MOST_LOOKED) in
    last_end from (drop from (take w.to ms)) None

abbrev pub stuck_in : Option Mark → Bool
stuck_in None = false
stuck_in (Some m) = is_stuck m.deed

abbrev pub is_stuck_at : List Mark → ℕ → Bool
is_stuck_at ms n = stuck_in (slice_get ms n)

-- a wait whose line was given up has none
abbrev pub end_for : List Mark → Wait → Option End
end_for ms w = if is_stuck_at ms w.to then None else last_end_before ms w

-- it leads to the row of another transaction
abbrev pub arrow : Scale → ℕ → ℕ → ℕ → List ℕ
arrow sc n from to = if from == to then []
    else opened_line (codes "arrow") (x_of sc n) (plus (y_of from) 85) (plus (y_of to) 85)

abbrev pub arrow_to : Scale → ℕ → ℕ → Option ℕ → List ℕ
arrow_to sc n row None = []
arrow_to sc n row (Some other) = arrow sc n row other

abbrev pub wait_arrow : Scale → List Shown → ℕ → Option End → List ℕ
wait_arrow sc ss row None = []
wait_arrow sc ss row (Some e) = arrow_to sc e.entry row (place_of e.number ss)

-- ---- all waits of transactions that are shown

abbrev pub wait_at : Scale → List Mark → List Shown → Wait → Option ℕ → List ℕ
wait_at sc ms ss w None = []
wait_at sc ms ss w (Some row) = wait_bar sc row w.from (wait_over ss row w.to)
    ++ wait_arrow sc ss row (end_for ms w)

abbrev pub wait_in : Scale → List Mark → List Shown → Wait → List ℕ
wait_in sc ms ss w = wait_at sc ms ss w (place_of w.number ss)

abbrev pub wait_rows : Scale → List Mark → List Shown → List Wait → List ℕ
wait_rows sc ms ss ws = flat_map (wait_in sc ms ss) ws

-- ---- more of them than can each be an element: outlines alone

abbrev pub shape_of : ℕ → ℕ → ℕ → List ℕ
shape_of x y width =
    codes "M" ++ point x y ++ codes "h" ++ tenths width ++ codes "v11h-" ++ tenths width ++ codes "z"

abbrev pub wait_shape : Scale → ℕ → ℕ → ℕ → List ℕ
wait_shape sc row from to =
    shape_of (x_of sc from) (plus (y_of row) 30) (max (x_of sc to - x_of sc from) 10)

abbrev pub shape_at : Scale → List Shown → Wait → Option ℕ → List ℕ
shape_at sc ss w None = []
shape_at sc ss w (Some row) = wait_shape sc row w.from (wait_over ss row w.to)

abbrev pub wait_shape_in : Scale → List Shown → Wait → List ℕ
wait_shape_in sc ss w = shape_at sc ss w (place_of w.number ss)

abbrev pub many_waits : Scale → List Shown → List Wait → List ℕ
many_waits sc ss ws = codes "<path class=\"wait\" d=\"M0 0" ++ flat_map (wait_shape_in sc ss) ws
    ++ codes "\"/>\n"

abbrev pub waits_of : Scale → List Mark → List Shown → List Wait → List ℕ
waits_of sc ms ss ws =
    if nat_le (length ws) MOST_WAITS then wait_rows sc ms ss ws else many_waits sc ss ws
